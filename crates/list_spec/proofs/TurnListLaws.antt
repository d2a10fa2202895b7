-- The moves of a list, and the turn of all boards.
-- Assumes nothing.
use Prim.Native.Nat.{ℕ, zero, suc, ◌+◌, ◌-◌, ◌*◌, ◌≤◌, ◌<◌}
use mathlib.Core.Path.{◌≡◌, refl, sym, ◌∙◌, ap, ap₂, subst}
use mathlib.Core.Bool.{true, not}
use mathlib.Core.List.{List, [], ◌∷◌, ◌++◌}
use mathlib.Core.Logic.{◌≢◌}
use mathlib.Core.Option.{some, none}
use native.Mathlib.Omega.{arith}
use lib.Dec.{eqb, ltb}
use lib.ListN.{length, take, set}
use borrow.Author.Tests.{eq-eqb, lt-ltb, le-ltb}
use Rattle.lists.specs.Tests.{among, below, different}
use Rattle.lists.specs.Lists.{All, Bytes, tabulate}
use Rattle.lists.proofs.Alls.{all-imp, all_left, all_right}
use Rattle.lists.proofs.Boards.{below_all, all-below}
use Rattle.lists.proofs.Pieces.{tabulate-ext}
use Rattle.lists.proofs.Tests.{hold-alls, all-every}
use Rattle.sizes.specs.Refusals.{Said, first, store_order}
use Rattle.sizes.proofs.Legal.{legal-facts}
use Rattle.sizes.proofs.Orders.{◌also◌, off-pass}
use Rattle.sizes.specs.Sizing.{legal, α, B}
use Rattle.sizes.specs.declared.Sizes.{Sizes}
use Rattle.mbcr.specs.PointLaws.{first_series}
use Rattle.mbcr.specs.Share.{point, standard, share}
use Rattle.mbcr.specs.TurnLaws.{turned}
use Rattle.mbcr.proofs.TurnLaws.{turn-laws}
use Rattle.ledger_spec.specs.Demand3.{Intact, begun, events}
use Rattle.ledger_spec.specs.Premises.{IdleGiven, files, unaltered}
use Rattle.beside_spec.specs.Running.{Running}
use Rattle.beside_spec.specs.Both.{set_up_both}
use Rattle.beside_spec.specs.Acting.{Call, write, lose, repair, read, edit, start, step, careful, move}
use Rattle.ledger_spec.specs.Ledger.{Event, call, power_fails, Book, Entry, open_book, book_lines, accept, enter, book_next, book_final, Step, Allowed, final}
use Rattle.ledger_spec.specs.LedgerLaws.{Accepted}
use Rattle.beside_spec.specs.HandedLaws.{new_point, set_points}
use Rattle.list_spec.specs.TurnListLaws.{moves_in, TurnListLaws}
use Rattle.store_spec.specs.Record.{Record, held, new_record}
use Rattle.ledger_spec.proofs.Demand3.{demand-3}
use Rattle.beside_spec.proofs.Beside.{set-up-both}
use Rattle.ledger_spec.proofs.LedgerLaws.{ledger-laws}
use Rattle.store_spec.proofs.Marks.{among_first, first_below}
use Rattle.ledger_spec.proofs.Premises.{premises}
use Rattle.store_spec.proofs.Records.{sound-facts}
use Rattle.store_spec.proofs.Passed.{settle-pass}
use Rattle.beside_spec.proofs.HandedLaws.{off-move}

-- ---- the turn

set-append : (xs : List ℕ) (ps qs : List (ℕ × ℕ)) → set_points xs (ps ++ qs) ≡ set_points (set_points xs ps) qs
set-append xs [] qs = refl
set-append xs (p ∷ ps) qs = set-append (set xs p.0 p.1) ps qs

points-are : (es : List Event) (b : Book) → (book_final b es).points ≡ set_points b.points (moves_in b es)
points-are [] b = refl
points-are (call c ∷ es) b =
    points-are es (enter b c).book
    ∙ ap (λ (xs : List ℕ). set_points xs (moves_in (enter b c).book es)) (ledger-laws.points-are b c)
    ∙ sym (set-append b.points (new_point c (enter b c).reply.answer) (moves_in (enter b c).book es))
points-are (power_fails p ∷ es) b = points-are es (book_next b (power_fails p))

turning : (z : Sizes) → legal z ≡ true → (m i : ℕ) → i + m ≤ z.n → set_points (turned z i) (tabulate m (λ t. (i + t, i + t))) ≡ turned z (i + m)
turning z ok zero i h = ap (turned z) e
  where
    e : i ≡ i + 0
    e = omega arith
turning z ok (suc m) i h =
    let e : i + 0 ≡ i = omega arith in
    let k : suc i + m ≡ i + suc m = omega arith in
    ap₂ (λ (j : ℕ) (ps : List (ℕ × ℕ)). set_points (set (turned z i) j j) ps) e
    (tabulate-ext m (λ t. (i + suc t, i + suc t)) (λ t. (suc i + t, suc i + t)) (λ t l. same (i + suc t) (suc i + t) (omega arith)))
    ∙ ap (λ (xs : List ℕ). set_points xs (tabulate m (λ t. (suc i + t, suc i + t)))) (turn-laws.turn_step z i ok (omega arith))
    ∙ turning z ok m (suc i) (omega arith) ∙ ap (turned z) k
  where
    same : (a b : ℕ) → a ≡ b → ◌≡◌ {A = ℕ × ℕ} (a, a) (b, b)
    same a b q = ap (λ (x : ℕ). (x, x)) q

turn : (z : Sizes) (c m : ℕ) (es : List Event) → legal z ≡ true
    → moves_in (open_book z (first_series z) c m) es ≡ tabulate z.n (λ i. (i, i))
    → (book_final (open_book z (first_series z) c m) es).points ≡ standard z
turn z c m es ok e =
    points-are es (open_book z (first_series z) c m)
    ∙ ap₂ set_points (sym (turn-laws.turn-first z)) e
    ∙ ap (λ (ps : List (ℕ × ℕ)). set_points (turned z 0) ps) (tabulate-ext z.n (λ i. (i, i)) (λ t. (0 + t, 0 + t)) (λ t l. ap (λ (x : ℕ). (x, x)) (zero_left t)))
    ∙ turning z ok z.n 0 (omega arith) ∙ ap (turned z) (sym (zero_left z.n)) ∙ turn-laws.turn_last z
  where
    zero_left : (t : ℕ) → t ≡ 0 + t
    zero_left t = omega arith

turn-record : (old : Record) (p : Running) (z : Sizes) (c : ℕ) (area : List ℕ) (steps : List Step) → (set_up_both old p z (first_series z) c).answer.refusal ≡ 0
    → Allowed (begun old p z (first_series z) c area) (open_book z (first_series z) c (length area)) steps
    → moves_in (open_book z (first_series z) c (length area)) (events steps) ≡ tabulate z.n (λ i. (i, i))
    → (final (begun old p z (first_series z) c area) steps).kept.points ≡ standard z
turn-record old p z c area steps taken ok e =
    let legal = (sound-facts (new_record z (first_series z) c) (set-up-both old p z (first_series z) c taken)).is-legal in
    ap (λ (s : Record). s.points) (demand-3 old p z (first_series z) c area steps taken ok).after.same-record ∙ turn z c (length area) (events steps) legal e

-- ---- the moves of a list

moves-one : (b : Book) (board point : ℕ) (helpers partners : List ℕ) (es : List Event) → Accepted b (move board point helpers partners)
    → moves_in b (call (move board point helpers partners) ∷ es) ≡ (board, point) ∷ moves_in (enter b (move board point helpers partners)).book es
moves-one b board point helpers partners es ok = rw (eq-eqb (enter b (move board point helpers partners)).reply.answer.refusal 0 ok) refl

no_move : (b : Book) (c : Call) (es : List Event) → new_point c (enter b c).reply.answer ≡ [] → moves_in b (call c ∷ es) ≡ moves_in (enter b c).book es
no_move b c es e = ap (λ (ps : List (ℕ × ℕ)). ps ++ moves_in (enter b c).book es) e

not_move : (c : Call) (a : Said) → ((board point : ℕ) (helpers partners : List ℕ) → c ≢ move board point helpers partners) → new_point c a ≡ []
not_move (write file) a h = refl
not_move (lose board) a h = refl
not_move (repair fresh helpers stand_ins) a h = refl
not_move (read boards output) a h = refl
not_move (edit offset bytes boards) a h = refl
not_move (start fresh helpers stand_ins) a h = refl
not_move (step allowance packets) a h = refl
not_move (careful boards output) a h = refl
not_move (move board point helpers partners) a h = absurd (h board point helpers partners refl)

moves-refused : (b : Book) (c : Call) (es : List Event) → (Accepted b c → ⊥) → moves_in b (call c ∷ es) ≡ moves_in b es
moves-refused b c es h =
    no_move b c es (off-move c (enter b c).reply.answer h) ∙ ap (λ (x : Book). moves_in x es) (ledger-laws.refused b c h).0

-- ---- lists that have the turn

-- a call that is no step
abbrev NoStep : Event → Type 0
NoStep (call (write file)) = Unit
NoStep (call (lose board)) = Unit
NoStep (call (repair fresh helpers stand_ins)) = Unit
NoStep (call (read boards output)) = Unit
NoStep (call (edit offset bytes boards)) = Unit
NoStep (call (start fresh helpers stand_ins)) = Unit
NoStep (call (step allowance packets)) = ⊥
NoStep (call (careful boards output)) = Unit
NoStep (call (move board point helpers partners)) = Unit
NoStep (power_fails p) = Unit

no_step : (e : Event) → NoStep e → (allowance : ℕ) (packets : List ℕ) → e ≢ call (step allowance packets)
no_step e h allowance packets q = subst NoStep q h

module _ (z : Sizes) (c : ℕ) (file : List ℕ) (ok : legal z ≡ true) where
  -- the book while boards are moved
  abbrev book : List ℕ → Book
  book xs = record { sizes = z; points = xs; capacity = c; area_length = z.n * (c * α z); file = some file; service = tabulate z.n (λ i. i); repairing = none }

  opened : length file ≤ c * B z → (enter (open_book z (first_series z) c (z.n * (c * α z))) (write file)).book ≡ book (first_series z)
  unfolding enter accept book_lines
  opened fits =
      ap (λ (e : Entry). e.book) (settle-pass (first store_order (book_lines (open_book z (first_series z) c (z.n * (c * α z))) (write file))) _ _
      (off-pass (book_lines (open_book z (first_series z) c (z.n * (c * α z))) (write file)) store_order
      (ap not (eq-eqb (z.n * (c * α z)) (z.n * (c * α z)) refl) also le-ltb (c * B z) (length file) fits also refl also tt)))

  module _ (i : ℕ) (helpers partners : List ℕ) (ch : length helpers ≡ z.d) (cp : length partners ≡ z.r - 1)
      (low : below z.n (i ∷ (helpers ++ partners)) ≡ true) (once : different (i ∷ (helpers ++ partners)) ≡ true) where
    lows : All (λ x. x < z.n) (i ∷ (helpers ++ partners))
    lows = below_all z.n (i ∷ (helpers ++ partners)) low

    entered : enter (book (turned z i)) (move i i helpers partners) ≡ accept (book (turned z i)) (move i i helpers partners)
    unfolding enter book_lines
    entered =
        settle-pass (first store_order (book_lines (book (turned z i)) (move i i helpers partners))) _ _
        (off-pass (book_lines (book (turned z i)) (move i i helpers partners)) store_order
        (ap not (eq-eqb (z.n * (c * α z)) (z.n * (c * α z)) refl)
        also refl
        also refl
        also ap not (hold-alls (eqb (length helpers) z.d ∷ eqb (length partners) (z.r - 1) ∷ []) (eq-eqb _ _ ch, (eq-eqb _ _ cp, tt)))
        also ap not (hold-alls (ltb i z.n ∷ below z.n helpers ∷ below z.n partners ∷ []) (
          lt-ltb i z.n lows.0,
          (all-below z.n helpers (all_left _ helpers partners lows.1), (all-below z.n partners (all_right _ helpers partners lows.1), tt)),
        ))
        also ap not (hold-alls (different (i ∷ (helpers ++ partners)) ∷ not (among (take z.n (turned z i)) i) ∷ [])
        (once, (ap not (turn-laws.turn-free z i ok lows.0), tt)))
        also ap not (all-every (among (tabulate z.n (λ t. t))) (tabulate z.n (λ t. t))
        (all-imp (λ x. x < z.n) (λ x. among (tabulate z.n (λ t. t)) x ≡ true) (λ x h. among_first z.n x ∙ lt-ltb x z.n h)
        (tabulate z.n (λ t. t)) (first_below z.n z.n (omega arith))))
        also tt))

    turn-accepted : Accepted (book (turned z i)) (move i i helpers partners)
    unfolding accept
    turn-accepted = ap (λ (e : Entry). e.reply.answer.refusal) entered

    turn-book : (enter (book (turned z i)) (move i i helpers partners)).book ≡ book (turned z (suc i))
    unfolding accept
    turn-book = ap (λ (e : Entry). e.book) entered ∙ ap book (turn-laws.turn_step z i ok lows.0)

  module _ (helpers partners : ℕ → List ℕ)
      (lists : (i : ℕ) → i < z.n
      → (length (helpers i) ≡ z.d) × (length (partners i) ≡ z.r - 1)
      × (below z.n (i ∷ (helpers i ++ partners i)) ≡ true) × (different (i ∷ (helpers i ++ partners i)) ≡ true)) where
    abbrev turns : ℕ → Event
    turns i = call (move i i (helpers i) (partners i))

    -- m boards from i on, whose numbers are `at`
    on : (m i : ℕ) (at : ℕ → ℕ) → ((t : ℕ) → at t ≡ i + t) → i + m ≤ z.n
        → moves_in (book (turned z i)) (tabulate m (λ t. turns (at t))) ≡ tabulate m (λ t. (at t, at t))
    on zero i at e h = refl
    on (suc m) i at e h =
        let first : at 0 ≡ i = e 0 ∙ omega arith in
        let k : i < z.n = omega arith in
        let l = lists i k in
        let rest = tabulate m (λ t. turns (at (suc t))) in
        subst (λ (j : ℕ). moves_in (book (turned z i)) (turns j ∷ rest) ≡ (j, j) ∷ tabulate m (λ t. (at (suc t), at (suc t)))) (sym first)
        (moves-one (book (turned z i)) i i (helpers i) (partners i) rest (turn-accepted i (helpers i) (partners i) l.0 l.1 l.2 l.3)
        ∙ ap (λ (b : Book). (i, i) ∷ moves_in b rest) (turn-book i (helpers i) (partners i) l.0 l.1 l.2 l.3)
        ∙ ap (λ (ps : List (ℕ × ℕ)). (i, i) ∷ ps) (on m (suc i) (λ t. at (suc t)) (λ t. e (suc t) ∙ omega arith) (omega arith)))

    turn-met : length file ≤ c * B z
        → moves_in (open_book z (first_series z) c (z.n * (c * α z))) (call (write file) ∷ tabulate z.n turns) ≡ tabulate z.n (λ i. (i, i))
    turn-met fits =
        ap (λ (b : Book). moves_in b (tabulate z.n turns)) (opened fits ∙ ap book (sym (turn-laws.turn-first z)))
        ∙ on z.n 0 (λ t. t) (λ t. omega arith) (omega arith)

    -- the book behind it
    behind : (m i : ℕ) (at : ℕ → ℕ) → ((t : ℕ) → at t ≡ i + t) → i + m ≤ z.n
        → book_final (book (turned z i)) (tabulate m (λ t. turns (at t))) ≡ book (turned z (i + m))
    behind zero i at e h = let q : i ≡ i + 0 = omega arith in ap (λ (j : ℕ). book (turned z j)) q
    behind (suc m) i at e h =
        let first : at 0 ≡ i = e 0 ∙ omega arith in
        let k : i < z.n = omega arith in
        let l = lists i k in
        let rest = tabulate m (λ t. turns (at (suc t))) in
        let q : suc i + m ≡ i + suc m = omega arith in
        subst (λ (j : ℕ). book_final (book (turned z i)) (turns j ∷ rest) ≡ book (turned z (i + suc m))) (sym first)
        (ap (λ (b : Book). book_final b rest) (turn-book i (helpers i) (partners i) l.0 l.1 l.2 l.3)
        ∙ behind m (suc i) (λ t. at (suc t)) (λ t. e (suc t) ∙ omega arith) (omega arith)
        ∙ ap (λ (j : ℕ). book (turned z j)) q)

    behind-all : length file ≤ c * B z → book_final (open_book z (first_series z) c (z.n * (c * α z))) (call (write file) ∷ tabulate z.n turns) ≡ book (standard z)
    behind-all fits =
        let q : 0 + z.n ≡ z.n = omega arith in
        ap (λ (b : Book). book_final b (tabulate z.n turns)) (opened fits ∙ ap book (sym (turn-laws.turn-first z)))
        ∙ behind z.n 0 (λ t. t) (λ t. omega arith) (omega arith)
        ∙ ap (λ (j : ℕ). book (turned z j)) q
        ∙ ap book (turn-laws.turn_last z)

    -- what is asked of the list
    no_steps : (m : ℕ) (at : ℕ → ℕ) → All (λ e. (allowance : ℕ) (packets : List ℕ) → e ≢ call (step allowance packets)) (tabulate m (λ t. turns (at t)))
    no_steps zero at = tt
    no_steps (suc m) at = (no_step (turns (at 0)) tt, no_steps m (λ t. at (suc t)))

    of-bytes : (m : ℕ) (at : ℕ → ℕ) → ((t : ℕ) → t < m → at t < 256) → All Bytes (files (tabulate m (λ t. turns (at t))))
    of-bytes zero at h = tt
    of-bytes (suc m) at h = ((h 0 (omega arith), tt), of-bytes m (λ t. at (suc t)) (λ t k. h (suc t) (omega arith)))

    none-fail : (m : ℕ) (at : ℕ → ℕ) → IdleGiven (tabulate m (λ t. turns (at t)))
    none-fail zero at = tt
    none-fail (suc m) at = none-fail m (λ t. at (suc t))

    turn-run : (old : Record) (p : Running) (area : List ℕ) → (set_up_both old p z (first_series z) c).answer.refusal ≡ 0 → length area ≡ z.n * (c * α z)
        → length file ≤ c * B z → Bytes file
        → let w = begun old p z (first_series z) c area in
        let e = final w (unaltered w (open_book z (first_series z) c (length area)) (call (write file) ∷ tabulate z.n turns)) in
        (e.kept.points ≡ standard z) × ((i : ℕ) → i < z.n → held e.kept e.area i ≡ share z (standard z) file i)
    turn-run old p area taken long fits bf =
        let w = begun old p z (first_series z) c area in
        let b = open_book z (first_series z) c (length area) in
        let es : List Event = call (write file) ∷ tabulate z.n turns in
        let steps = unaltered w b es in
        let few = (legal-facts z ok).few in
        let allowed = premises.all-allowed old p z (first_series z) c area es (bf, of-bytes z.n (λ t. t) (λ t k. omega (arith, few))) (none-fail z.n (λ t. t)) in
        let same : events steps ≡ es = premises.whole-events w b es (no_step (call (write file)) tt, no_steps z.n (λ t. t)) in
        let ends : book_final b (events steps) ≡ book (standard z) =
        ap₂ (λ (m : ℕ) (l : List Event). book_final (open_book z (first_series z) c m) l) long same ∙ behind-all fits in
        let intact = subst (λ (x : Book). Intact (final w steps) x) ends (demand-3 old p z (first_series z) c area steps taken allowed).after in (
          ap (λ (s : Record). s.points) intact.same-record,
          λ i h. intact.holds (final w steps).area (record { as_long = refl; in-service = λ i e. refl }) i (among_first z.n i ∙ lt-ltb i z.n h),
        )

pub turn-list-laws : TurnListLaws
turn-list-laws = record {
  moves-none = λ b. refl;
  moves-one = moves-one;
  moves-refused = moves-refused;
  moves-other = λ b c es h. no_move b c es (not_move c (enter b c).reply.answer h);
  moves-fails = λ b p es. refl;
  points-are = points-are;
  turn = turn;
  turn-record = turn-record;
  turn-met = λ z c file helpers partners ok fits lists. turn-met z c file ok helpers partners lists fits;
  turn-run = λ old p z c area file helpers partners taken long fits bf lists.
      turn-run z c file (sound-facts (new_record z (first_series z) c) (set-up-both old p z (first_series z) c taken)).is-legal helpers partners lists old p area taken long fits bf;
}
