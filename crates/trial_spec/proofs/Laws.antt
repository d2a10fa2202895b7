-- The laws of specs/Laws.antt: demand 3 of the calls drawn, with nothing altered between them.
-- Assumes nothing.
use mathlib.Core.Path.{◌≡◌, refl, sym, ap, ap₂, subst, ◌∙◌}
use mathlib.Core.Bool.{Bool, true, false}
use mathlib.Core.Logic.{⊎_elim}
use mathlib.Core.Option.{Option, some, none}
use mathlib.Core.List.{List, [], ◌∷◌, ◌++◌, map}
use Prim.Native.Nat.{ℕ, zero, suc, ◌+◌, ◌%◌, ◌≤◌}
use lib.Dec.{leb, eqb}
use lib.ListN.{length, replicate}
use borrow.Author.Tests.{eqb-true, eq-eqb, leb-true, le-leb}
use Rattle.lists.specs.Tests.{pick, alls, among, given}
use Rattle.lists.specs.Lists.{All, join, over}
use Rattle.lists.proofs.Tests.{true-false, alls-hold, hold-alls}
use Rattle.sizes.specs.declared.Sizes.{Sizes}
use Rattle.std.specs.Prelude.{Ok, Err}
use Rattle.sizes.specs.Refusals.{Said, said, Line, first, store_order, Check}
use Rattle.mbcr.specs.Share.{standard}
use Rattle.board_spec.specs.Calls.{file_of}
use Rattle.printer.specs.Printer.{refused_line}
use Rattle.store_spec.specs.Record.{Record, new_record, area_len}
use Rattle.store_spec.specs.Calls.{settle, refused, accepted, record_line, set_up_call, lose_call}
use Rattle.beside_spec.specs.Running.{Running, idle, named_in}
use Rattle.beside_spec.specs.Both.{Outcome, set_up_both, lost_beside}
use Rattle.beside_spec.specs.Acting.{Call, write, lose, repair, read, edit, start, step, careful, move, State}
use Rattle.ledger_spec.specs.Ledger.{Event, call, Reply, Book, Entry, Step, Allowed}
use Rattle.ledger_spec.specs.Ledger.{FairEvent, reply_of, next, replied, book_lines, accept, enter, book_next, replies, open_book, book_replies}
use Rattle.beside_spec.specs.Acting.{act}
use Rattle.ledger_spec.specs.Demand3.{begun, events}
use Rattle.beside_spec.proofs.AloneLaws.{alone-laws}
use Rattle.ledger_spec.proofs.Demand3.{demand-3}
use Rattle.generator.specs.Generator.{step as stepped, top_byte, after, emitted}
use Rattle.generator.proofs.Laws.{generator-laws}
use Rattle.number_lines.specs.Lines.{line}
use Rattle.number_lines.specs.Laws.{Starts, spelled}
use Rattle.number_lines.proofs.Laws.{line-laws}
use Rattle.trial_spec.specs.Trial.{Load, new_store, taken, loaded, Drawn, counted, board_call, drawn, drawn_calls, word, call_line, printed, left, store_replies, trial_over, trial_of, trial_text}
use Rattle.trial_spec.specs.Laws.{book_text, cleared, Drawable, TrialLaws}

-- ---- a set-up answers alike whatever records it is handed

any-record : (old new : Record) (p : Running) (z : Sizes) (xs : List ℕ) (c : ℕ) → (set_up_both old p z xs c).answer ≡ (set_up_call new z xs c).answer
unfolding set_up_call
any-record old new p z xs c = (alone-laws.set-up-alone old p z xs c).answer-is ∙ by (first store_order (record_line (new_record z xs c) ∷ []))
  where
    by : (k : Check) → (settle k (refused old [] []) (accepted 0 (new_record z xs c) [] [])).answer ≡ (settle k (refused new [] []) (accepted 0 (new_record z xs c) [] [])).answer
    by (Ok tt) = refl
    by (Err x) = refl

-- ---- what is taken

abbrev Takes : Load → Type 0
Takes l = (l.seed ≤ 4294967295) × (l.calls ≤ 4294967295)
    × ((old : Record) (p : Running) → (set_up_both old p l.sizes (standard l.sizes) l.capacity).answer.refusal ≡ 0)
    × (area_len (new_store l) ≤ 32768) × (l.length ≤ 16384)

abbrev tests : Load → List Bool
tests l =
    leb l.seed 4294967295
    ∷ leb l.calls 4294967295
    ∷ eqb (set_up_call (new_store l) l.sizes (standard l.sizes) l.capacity).answer.refusal 0
    ∷ leb (area_len (new_store l)) 32768
    ∷ leb l.length 16384
    ∷ []

takes : (l : Load) → taken l ≡ true → Takes l
unfolding taken
takes l h =
    let e = alls-hold (tests l) h in (
      leb-true _ _ e.0,
      leb-true _ _ e.1.0,
      λ old p. ap (λ (a : Said). a.refusal) (any-record old (new_store l) p l.sizes (standard l.sizes) l.capacity) ∙ eqb-true _ 0 e.1.1.0,
      leb-true _ _ e.1.1.1.0,
      leb-true _ _ e.1.1.1.1.0,
    )

takes_back : (l : Load) → Takes l → taken l ≡ true
unfolding taken
takes_back l t =
    let z = l.sizes in
    let e = sym (ap (λ (a : Said). a.refusal) (any-record (new_store l) (new_store l) idle z (standard z) l.capacity)) ∙ t.2 (new_store l) idle in
    hold-alls (tests l) (le-leb _ _ t.0, (le-leb _ _ t.1, (eq-eqb _ 0 e, (le-leb _ _ t.3, (le-leb _ _ t.4, tt)))))

-- ---- calls with nothing altered between them

abbrev record-left : Outcome → List ℕ → State
record-left o packets = record { kept = o.handed; running = o.running; area = o.area; packets = packets }

-- a call drawn is no step, so that the packet area stays: none
left_is : (w : State) (c : Call) → Drawable c → w.packets ≡ [] → next w (call c) ≡ left (act w c)
left_is w (write file) h e = ap (record-left (act w (write file))) e
left_is w (lose board) h e = ap (record-left (act w (lose board))) e
left_is w (repair fresh helpers stand_ins) h e = ap (record-left (act w (repair fresh helpers stand_ins))) e
left_is w (read boards output) h e = ap (record-left (act w (read boards output))) e
left_is w (edit offset bytes boards) h e = absurd h
left_is w (start fresh helpers stand_ins) h e = absurd h
left_is w (step allowance packets) h e = absurd h
left_is w (careful boards output) h e = absurd h
left_is w (move board point helpers partners) h e = absurd h

abbrev unaltered : State → List Call → List Step
unaltered w [] = []
unaltered w (c ∷ cs) = record { area = w.area; event = call c } ∷ unaltered (left (act w c)) cs

unaltered-events : (w : State) (cs : List Call) → events (unaltered w cs) ≡ map call cs
unaltered-events w [] = refl
unaltered-events w (c ∷ cs) = ap {B = List Event} (λ l. call c ∷ l) (unaltered-events (left (act w c)) cs)

unaltered-replies : (w : State) (cs : List Call) → w.packets ≡ [] → All Drawable cs → replies w (unaltered w cs) ≡ store_replies w cs
unaltered-replies w [] e h = refl
unaltered-replies w (c ∷ cs) e h =
    ap {B = List Reply} (λ l. reply_of (act w c) ∷ l)
    (ap (λ (v : State). replies v (unaltered (left (act w c)) cs)) (left_is w c h.0 e) ∙ unaltered-replies (left (act w c)) cs refl h.1)

drawable-fair : (b : Book) (old : List ℕ) (c : Call) → Drawable c → FairEvent b old (call c)
drawable-fair b old (write file) h = h
drawable-fair b old (lose board) h = tt
drawable-fair b old (repair fresh helpers stand_ins) h = tt
drawable-fair b old (read boards output) h = tt
drawable-fair b old (edit offset bytes boards) h = absurd h
drawable-fair b old (start fresh helpers stand_ins) h = absurd h
drawable-fair b old (step allowance packets) h = absurd h
drawable-fair b old (careful boards output) h = absurd h
drawable-fair b old (move board point helpers partners) h = absurd h

unaltered-allowed : (w : State) (b : Book) (cs : List Call) → w.packets ≡ [] → All Drawable cs → Allowed w b (unaltered w cs)
unaltered-allowed w b [] e h = tt
unaltered-allowed w b (c ∷ cs) e h = (
  record { as_long = refl; in-service = λ i e. refl },
  drawable-fair b w.packets c h.0,
  subst (λ (v : State). Allowed v (book_next b (call c)) (unaltered (left (act w c)) cs)) (sym (left_is w c h.0 e))
      (unaltered-allowed (left (act w c)) (book_next b (call c)) cs refl h.1),
)

-- where no repair runs, none of these calls changes the record beside
same_beside : (t : Bool) (p : Running) → pick t p p ≡ p
same_beside true p = refl
same_beside false p = refl

stays-idle : (w : State) (c : Call) → Drawable c → w.running.running ≡ false → (act w c).running ≡ w.running
unfolding act
stays-idle w (write file) h e = (alone-laws.write_alone w.kept w.running w.area file e).running-is
stays-idle w (lose board) h e =
    let s = w.kept in
    let p = w.running in
    let l : lost_beside s p board ≡ p = ap (λ (b : Bool). pick (alls (b ∷ among (named_in s.sizes p) board ∷ [])) idle p) e in
    (alone-laws.lose-alone s p w.area board (alone-laws.idle-sound s p e)).running-is
    ∙ ap (λ (q : Running). pick (eqb (lose_call s w.area board).answer.refusal 0) q p) l ∙ same_beside (eqb (lose_call s w.area board).answer.refusal 0) p
stays-idle w (repair fresh helpers stand_ins) h e = (alone-laws.repair-alone w.kept w.running w.area fresh helpers stand_ins e).running-is
stays-idle w (read boards output) h e =
    (alone-laws.read-alone w.kept w.running w.area boards output (alone-laws.idle-sound w.kept w.running e)).running-is
stays-idle w (edit offset bytes boards) h e = absurd h
stays-idle w (start fresh helpers stand_ins) h e = absurd h
stays-idle w (step allowance packets) h e = absurd h
stays-idle w (careful boards output) h e = absurd h
stays-idle w (move board point helpers partners) h e = absurd h

-- ---- the calls drawn

drawn-fair : (l : Load) (state : ℕ) → Drawable (drawn l state).call
unfolding drawn
drawn-fair l state = by (eqb (top_byte (stepped state) % 4) 0)
  where
    board : (op f : ℕ) → Drawable (board_call l op f)
    board op f = on (eqb op 1) (eqb op 2)
      where
        on : (t u : Bool) → Drawable (pick t (lose f)
            (pick u (repair (counted l.sizes.n f l.sizes.r)
            (join l.sizes.r (λ _. counted l.sizes.n (f + l.sizes.r) l.sizes.d)) [])
            (read (counted l.sizes.n f l.sizes.k) (replicate l.length 0))))
        on true u = tt
        on false true = tt
        on false false = tt

    by : (t : Bool) → Drawable (pick {A = Drawn} t
        (record { call = write (emitted l.length (stepped state)); state = after l.length (stepped state) })
        (record { call = board_call l (top_byte (stepped state) % 4) (top_byte (stepped (stepped state)) % l.sizes.n); state = stepped (stepped state) })).call
    by true = generator-laws.bytes l.length (stepped state)
    by false = board (top_byte (stepped state) % 4) (top_byte (stepped (stepped state)) % l.sizes.n)

fair : (l : Load) (m state : ℕ) → All Drawable (drawn_calls l m state)
fair l zero state = tt
fair l (suc m) state = (drawn-fair l state, fair l m (drawn l state).state)

as_many : (l : Load) (m state : ℕ) → length (drawn_calls l m state) ≡ m
as_many l zero state = refl
as_many l (suc m) state = ap suc (as_many l m (drawn l state).state)

-- ---- by the ledger

-- any calls that are fair
fair-by-ledger : (l : Load) → taken l ≡ true → (old : Record) (p : Running) (area : List ℕ) → length area ≡ area_len (new_store l) → (cs : List Call) → All Drawable cs
    → store_replies (begun old p l.sizes (standard l.sizes) l.capacity area) cs
    ≡ book_replies (open_book l.sizes (standard l.sizes) l.capacity (area_len (new_store l))) (map call cs)
fair-by-ledger l h old p area e cs f =
    let z = l.sizes in
    let w = begun old p z (standard z) l.capacity area in
    let b = open_book z (standard z) l.capacity (length area) in
    let d = demand-3 old p z (standard z) l.capacity area (unaltered w cs) ((takes l h).2 old p) (unaltered-allowed w b cs refl f) in
    sym (unaltered-replies w cs refl f) ∙ d.alike
    ∙ ap₂ (λ (m : ℕ) (es : List Event). book_replies (open_book z (standard z) l.capacity m) es) e (unaltered-events w cs)

by-ledger : (l : Load) → taken l ≡ true → (old : Record) (p : Running) (area : List ℕ) → length area ≡ area_len (new_store l) → trial_over old p area l ≡ book_text l
unfolding trial_over
by-ledger l h old p area e =
    let cs = drawn_calls l l.calls l.seed in
    ap (printed cs) (fair-by-ledger l h old p area e cs (fair l l.calls l.seed))

-- ---- whatever bytes outputs hold

length-zeros : (m : ℕ) → length {A = ℕ} (replicate m 0) ≡ m
length-zeros zero = refl
length-zeros (suc m) = ap suc (length-zeros m)

-- what the ledger answers to a read, and the book after it, by its lines
abbrev entered : Book → List ℕ → List ℕ → List Line → Entry
entered b boards output lines =
    settle (first store_order lines) (λ x. replied (said (Err x)) output b) (replied (said (Ok 0)) (over (file_of b.file) output) b)

same_answer : (b : Book) (boards out other : List ℕ) (lines : List Line)
    → ((entered b boards out lines).reply.answer ≡ (entered b boards other lines).reply.answer) × ((entered b boards out lines).book ≡ (entered b boards other lines).book)
same_answer b boards out other lines = by (first store_order lines)
  where
    by : (c : Check) →
        ((settle c (λ x. replied (said (Err x)) out b) (replied (said (Ok 0)) (over (file_of b.file) out) b)).reply.answer
        ≡ (settle c (λ x. replied (said (Err x)) other b) (replied (said (Ok 0)) (over (file_of b.file) other) b)).reply.answer)
        × ((settle c (λ x. replied (said (Err x)) out b) (replied (said (Ok 0)) (over (file_of b.file) out) b)).book
        ≡ (settle c (λ x. replied (said (Err x)) other b) (replied (said (Ok 0)) (over (file_of b.file) other) b)).book)
    by (Ok tt) = (refl, refl)
    by (Err x) = (refl, refl)

clear_lines : (b : Book) (boards output : List ℕ) → book_lines b (read boards output) ≡ book_lines b (cleared (read boards output))
unfolding book_lines
clear_lines b boards output = rw (length-zeros (length output))

clear-call : (b : Book) (c : Call) → ((enter b c).reply.answer ≡ (enter b (cleared c)).reply.answer) × ((enter b c).book ≡ (enter b (cleared c)).book) × (word c ≡ word (cleared c))
unfolding enter accept
clear-call b (write file) = (refl, refl, refl)
clear-call b (lose board) = (refl, refl, refl)
clear-call b (repair fresh helpers stand_ins) = (refl, refl, refl)
clear-call b (read boards output) =
    let s = same_answer b boards output (replicate (length output) 0) (book_lines b (read boards output)) in
    let e = ap (entered b boards (replicate (length output) 0)) (clear_lines b boards output) in
    (s.0 ∙ ap (λ (n : Entry). n.reply.answer) e, s.1 ∙ ap (λ (n : Entry). n.book) e, refl)
clear-call b (edit offset bytes boards) = (refl, refl, refl)
clear-call b (start fresh helpers stand_ins) = (refl, refl, refl)
clear-call b (step allowance packets) = (refl, refl, refl)
clear-call b (careful boards output) = (refl, refl, refl)
clear-call b (move board point helpers partners) = (refl, refl, refl)

clear-line : (c d : Call) (a r : Said) → word c ≡ word d → a ≡ r → call_line c a ≡ call_line d r
unfolding call_line
clear-line c d a r e f = rw (e, f)

clear-calls : (b d : Book) (cs : List Call) → b ≡ d → printed cs (book_replies b (map call cs)) ≡ printed (map cleared cs) (book_replies d (map call (map cleared cs)))
clear-calls b d [] e = refl
clear-calls b d (c ∷ cs) e =
    let k = clear-call b c in
    let q : enter b (cleared c) ≡ enter d (cleared c) = ap (λ (x : Book). enter x (cleared c)) e in
    ap₂ {C = List ℕ} (λ (x y : List ℕ). x ++ y)
    (clear-line c (cleared c) _ _ k.2 (k.0 ∙ ap (λ (n : Entry). n.reply.answer) q))
    (clear-calls (enter b c).book (enter d (cleared c)).book cs (k.1 ∙ ap (λ (n : Entry). n.book) q))

clear-fair : (cs : List Call) → All Drawable (map cleared cs) → All Drawable cs
clear-fair [] h = tt
clear-fair (write file ∷ cs) h = (h.0, clear-fair cs h.1)
clear-fair (lose board ∷ cs) h = (tt, clear-fair cs h.1)
clear-fair (repair fresh helpers stand_ins ∷ cs) h = (tt, clear-fair cs h.1)
clear-fair (read boards output ∷ cs) h = (tt, clear-fair cs h.1)
clear-fair (edit offset bytes boards ∷ cs) h = absurd h.0
clear-fair (start fresh helpers stand_ins ∷ cs) h = absurd h.0
clear-fair (step allowance packets ∷ cs) h = absurd h.0
clear-fair (careful boards output ∷ cs) h = absurd h.0
clear-fair (move board point helpers partners ∷ cs) h = absurd h.0

any-output : (l : Load) → taken l ≡ true → (old : Record) (p : Running) (area : List ℕ) → length area ≡ area_len (new_store l)
    → (cs : List Call) → map cleared cs ≡ drawn_calls l l.calls l.seed
    → printed cs (store_replies (begun old p l.sizes (standard l.sizes) l.capacity area) cs) ≡ book_text l
any-output l h old p area e cs q =
    let b = open_book l.sizes (standard l.sizes) l.capacity (area_len (new_store l)) in
    ap (printed cs) (fair-by-ledger l h old p area e cs (clear-fair cs (subst (All Drawable) (sym q) (fair l l.calls l.seed))))
    ∙ clear-calls b b cs refl ∙ ap (λ (ds : List Call). printed ds (book_replies b (map call ds))) q

-- ---- what is loaded is taken

some_is : {X : Type 0} {x y : X} → ◌≡◌ {A = Option X} (some x) (some y) → x ≡ y
some_is e = cc

module _ {X : Type 0} (P : X → Type 0) where
  none-some : {x : X} → ◌≡◌ {A = Option X} none (some x) → P x
  none-some e = absurd (true-false {b = true} refl (sym (ap given e)))

  -- of what a line gives P holds, where it holds of what follows
  some-line : (name input : List ℕ) (go : ℕ → List ℕ → Option X) → ((v : ℕ) (rest : List ℕ) (x : X) → go v rest ≡ some x → P x)
      → (x : X) → line none name input go ≡ some x → P x
  some-line name input go f x e = ⊎_elim there (λ g. none-some (sym (g go) ∙ e)) (line-laws.else-malformed none name input)
    where
      there : Starts name input → P x
      there s =
          f (spelled s.figures 0) s.behind x
          (sym (line-laws.taken none name s.figures s.is_number s.behind go) ∙ ap (λ (l : List ℕ). line none name l go) (sym s.whole) ∙ e)

abbrev ends : Load → List ℕ → Option Load
ends l behind = pick (alls (taken l ∷ eqb (length behind) 0 ∷ [])) (some l) none

end-taken : (l : Load) (behind : List ℕ) (x : Load) → ends l behind ≡ some x → taken x ≡ true
end-taken l behind x e = by (alls (taken l ∷ eqb (length behind) 0 ∷ [])) refl e
  where
    by : (t : Bool) → alls (taken l ∷ eqb (length behind) 0 ∷ []) ≡ t → pick t (some l) none ≡ some x → taken x ≡ true
    by true h e = ap taken (sym (some_is e)) ∙ (alls-hold (taken l ∷ eqb (length behind) 0 ∷ []) h).0
    by false h e = none-some (λ x. taken x ≡ true) e

loaded-taken : (input : List ℕ) (l : Load) → loaded input ≡ some l → taken l ≡ true
unfolding loaded
loaded-taken input =
    some-line Taken (0x6E ∷ 0x3D ∷ []) input _ (λ n input.
    some-line Taken (0x6B ∷ 0x3D ∷ []) input _ (λ k input.
    some-line Taken (0x64 ∷ 0x3D ∷ []) input _ (λ d input.
    some-line Taken (0x72 ∷ 0x3D ∷ []) input _ (λ r input.
    some-line Taken (0x43 ∷ 0x3D ∷ []) input _ (λ C input.
    some-line Taken (0x73 ∷ 0x65 ∷ 0x65 ∷ 0x64 ∷ 0x3D ∷ []) input _ (λ seed input.
    some-line Taken (0x6C ∷ 0x65 ∷ 0x6E ∷ 0x67 ∷ 0x74 ∷ 0x68 ∷ 0x3D ∷ []) input _ (λ L input.
    some-line Taken (0x63 ∷ 0x61 ∷ 0x6C ∷ 0x6C ∷ 0x73 ∷ 0x3D ∷ []) input _ (λ calls behind.
    end-taken (record { sizes = record { n = n; k = k; d = d; r = r }; capacity = C; seed = seed; length = L; calls = calls }) behind))))))))
  where
    Taken : Load → Type 0
    Taken l = taken l ≡ true

text-is : (input : List ℕ) (l : Load) → loaded input ≡ some l → (taken l ≡ true) × (trial_text input ≡ book_text l)
unfolding trial_text
text-is input l e =
    let t = loaded-taken input l e in
    (t, ap trial_of e ∙ by-ledger l t (new_store l) idle (replicate (area_len (new_store l)) 0) (length-zeros (area_len (new_store l))))

refuses : (input : List ℕ) → loaded input ≡ none → trial_text input ≡ refused_line 1
unfolding trial_text
refuses input e = ap trial_of e

pub trial-laws : TrialLaws
trial-laws = record {
  area-is = λ l. refl;
  taken_is = λ l. (takes l, takes_back l);
  by-ledger = by-ledger;
  any-output = any-output;
  text-is = text-is;
  refused = refuses;
  as_many = as_many;
  fair = fair;
  stays-idle = stays-idle;
}
