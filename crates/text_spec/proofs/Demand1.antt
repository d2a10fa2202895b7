-- Demand 1 holds of the text reader and of the gathering.
-- Assumes nothing.
use mathlib.Core.Path.{◌≡◌, refl, sym, ap, ap₂, subst, ◌∙◌}
use mathlib.Core.Bool.{Bool, true, false, not}
use mathlib.Core.Logic.{◌↔◌}
use mathlib.Core.Option.{Option, some, none}
use mathlib.Core.List.{List, [], ◌∷◌, ◌++◌, map}
use Prim.Native.Nat.{ℕ, ◌*◌, ◌≤◌, ◌<◌}
use native.Mathlib.Omega.{arith}
use lib.ListN.{length, take, drop, length-take}
use lib.Seq.{take_at, drop_at}
use borrow.Author.Tests.{ltb-false, le-ltb, lt-ltb, le-leb}
use Rattle.lists.specs.Tests.{pick, same, given, different}
use Rattle.lists.specs.Lists.{All, Bytes, concat, over}
use Rattle.lists.proofs.Boards.{below_all}
use Rattle.sizes.specs.declared.Sizes.{Sizes}
use Rattle.std.specs.Prelude.{Ok, Err}
use Rattle.sizes.specs.declared.Refusal.TheVariants.{Text, Mixed, Count, Repeat, Short, Disagree}
use Rattle.sizes.specs.Sizing.{legal, α, B, stripes}
use Rattle.sizes.specs.Refusals.{said, ◌when◌, first, board_order, Check}
use Rattle.sizes.proofs.Legal.{legal-facts}
use Rattle.sizes.proofs.Lines.{clear_first, refuse-first, one-or-none}
use Rattle.sizes.proofs.Orders.{Only}
use Rattle.mbcr.specs.Share.{pointed, share, shares}
use Rattle.mbcr.specs.Demand2.{Named}
use Rattle.mbcr.specs.Read.{decoded_file, read_file}
use Rattle.mbcr.proofs.Places.{share-bytes}
use Rattle.mbcr.proofs.Repair.{length-share}
use Rattle.board_spec.specs.Calls.{BoardOutcome, settled, file_of, file_call, short_line}
use Rattle.board_spec.specs.Claims.{Claim, ◌means◌, LinesSay}
use Rattle.board_spec.specs.Demand1.{BoardEnds}
use Rattle.board_spec.proofs.Demand1 as board
use Rattle.text_spec.specs.Texts.{ShareTold, text_of, texts_joined, read_text, texts_of}
use Rattle.text_spec.specs.Calls.{told_of, read_settled, read_text_lines, read_text_call, texts_told, first_of, nodes_of, shares_of, gathered, gather_lines, gather_call}
use Rattle.text_spec.specs.Laws.{Writable}
use Rattle.text_spec.specs.Demand1.{ReadEnds, Like, written_claims, share_of, TextCalls}
use Rattle.text_spec.proofs.Laws.{facts-of, of-facts, text-told, texts-told}
use Rattle.text_spec.proofs.Alike.{read-lines, gather-lines}
use Rattle.text_spec.proofs.Gather.{shares-bytes, width, is-file, all-like, only-file, shares-wide}

-- ---- the reader

read-ends : (text output : List ℕ) → ReadEnds (read_text_lines text output) output (told_of (read_text text)) (read_text_call text output)
unfolding read_text_lines read_text_call
read-ends text output = record {
  one = one-or-none (read_text_lines text output) board_order;
  refuses = λ x h. ap (λ (c : Check). read_settled c (told_of (read_text text)) output) (refuse-first (read_text_lines text output) board_order x h);
  works = λ h. (
    ap (λ (c : Check). read_settled c (told_of (read_text text)) output) (clear_first (read_text_lines text output) board_order h),
    ltb-false (length output) (length (told_of (read_text text)).share) h.1.1.1.1.1.1.1.1.0,
  );
}

reader-gives : (t : ShareTold) (output : List ℕ) → Writable t → length t.share ≤ length output
    → read_text_call (text_of t) output
    ≡ record { answer = said (Ok (length t.share)); sizes = t.sizes; points = t.points; node = t.node; length = t.length; output = over t.share output }
unfolding read_text_lines read_text_call
reader-gives t output w room =
    ap (λ (o : Option ShareTold). read_settled (first board_order (Text when not (given o) ∷ short_line output (length (told_of o).share) ∷ [])) (told_of o) output)
    ((text-told (text_of t) t).1 (refl, w))
    ∙ ap (λ (b : Bool). read_settled (first board_order (Text when false ∷ Short when b ∷ [])) t output) (le-ltb (length output) (length t.share) room)

-- ---- the gathering

length-file-of : (t : Bool) (L : ℕ) (l : List ℕ) → length (file_of (pick t (some (take L l)) none)) ≤ L
length-file-of true L l = simp length-take (omega arith)
length-file-of false L l = omega arith

length-read : (z : Sizes) (xs : List ℕ) (L : ℕ) (boards held : List ℕ) → length (file_of (read_file z xs L boards held)) ≤ L
unfolding read_file decoded_file
length-read z xs L boards held = length-file-of (same (shares z xs (decoded_file z xs L boards held) boards) held) L _

gather-ends : (text output : List ℕ) → BoardEnds (gather_lines text output) output (file_of (gathered (texts_told (texts_of text)))) (gather_call text output)
unfolding gather_lines gather_call gathered
gather-ends text output =
    let ts = texts_told (texts_of text) in
    let t = first_of ts in
    record {
      one = one-or-none (gather_lines text output) board_order;
      refuses = λ x h. ap (λ (c : Check). settled c (file_of (gathered ts)) output) (refuse-first (gather_lines text output) board_order x h);
      works = λ h. (
        ap (λ (c : Check). settled c (file_of (gathered ts)) output) (clear_first (gather_lines text output) board_order h),
        omega (arith, length-read t.sizes t.points t.length (nodes_of ts) (shares_of ts), ltb-false (length output) t.length h.1.1.1.1.1.1.1.1.0),
      );
    }

-- what the texts of boards tell
module _ (z : Sizes) (xs file : List ℕ) where
  nodes-of : (boards : List ℕ) → nodes_of (map (share_of z xs file) boards) ≡ boards
  nodes-of [] = refl
  nodes-of (i ∷ boards) = ap {B = List ℕ} (λ l. i ∷ l) (nodes-of boards)

  shares-of : (boards : List ℕ) → shares_of (map (share_of z xs file) boards) ≡ concat (map (share z xs file) boards)
  shares-of [] = refl
  shares-of (i ∷ boards) = ap {B = List ℕ} (λ l. share z xs file i ++ l) (shares-of boards)

  module _ (ok : legal z ≡ true) (taken : pointed z xs ≡ true) (bf : Bytes file) (few : length file ≤ 4096 * B z) where
    all-writable : (boards : List ℕ) → All (λ i. i < z.n) boards → All Writable (map (share_of z xs file) boards)
    all-writable [] h = tt
    all-writable (i ∷ boards) h = (
      (
        of-facts (share_of z xs file i) (record {
          is-legal = ok;
          not-long = le-leb (length file) (4096 * B z) few;
          known = lt-ltb i z.n h.0;
          is-pointed = taken;
          long = length-share z xs (legal-facts z ok) file i;
        }),
        share-bytes z xs (legal-facts z ok) file bf i,
      ),
      all-writable boards h.1,
    )

    all_alike : (i : ℕ) (boards : List ℕ) → All (Like (share_of z xs file i)) (map (share_of z xs file) boards)
    all_alike i [] = tt
    all_alike i (j ∷ boards) = ((refl, refl, refl), all_alike i boards)

    gather-gives : (boards output : List ℕ) → Named z z.k boards → length file ≤ length output
        → gather_call (texts_joined (map (share_of z xs file) boards)) output ≡ record { answer = said (Ok (length file)); output = over file output }
    unfolding shares
    gather-gives [] output h room = absurd (omega (arith, h.0, (legal-facts z ok).some_read))
    gather-gives (i ∷ boards) output h room =
        is-file (share_of z xs file i) (map (share_of z xs file) boards) output (all-writable (i ∷ boards) (below_all z.n (i ∷ boards) h.1)) (all_alike i boards)
        ∙ ap₂ {C = BoardOutcome} (λ (nodes held : List ℕ). file_call z xs (length file) nodes held output) (nodes-of (i ∷ boards)) (shares-of (i ∷ boards))
        ∙ (board.demand-1).reader-gives z xs file (i ∷ boards) output ok taken bf few h room

-- shares that stand one after another are those of a file just where each is
module _ (z : Sizes) (xs file : List ℕ) (w : ℕ) where
  each-share : (ts : List ShareTold) → All (λ u. length u.share ≡ w) ts → ((i : ℕ) → length (share z xs file i) ≡ w)
      → concat (map (share z xs file) (nodes_of ts)) ≡ shares_of ts → All (λ u. u.share ≡ share z xs file u.node) ts
  each-share [] h l e = tt
  each-share (u ∷ ts) h l e =
      let f = share z xs file u.node in
      let rest = concat (map (share z xs file) (nodes_of ts)) in (
        sym (sym (take_at f rest w (l u.node)) ∙ ap (take w) e ∙ take_at u.share (shares_of ts) w h.0),
        each-share ts h.1 l (sym (drop_at f rest w (l u.node)) ∙ ap (drop w) e ∙ drop_at u.share (shares_of ts) w h.0),
      )

  shares_each : (ts : List ShareTold) → All (λ u. u.share ≡ share z xs file u.node) ts → concat (map (share z xs file) (nodes_of ts)) ≡ shares_of ts
  shares_each [] h = refl
  shares_each (u ∷ ts) h = ap₂ {C = List ℕ} (λ (a b : List ℕ). a ++ b) (sym h.0) (shares_each ts h.1)

-- both ways, over equal outcomes and equal statements
through : {A B C D : Type 0} → A ↔ B → C ↔ D → B ↔ C → A ↔ D
through p q r = ((λ a. q.0 (r.0 (p.0 a))), (λ d. p.1 (r.1 (q.1 d))))

same_outcome : {o p q : BoardOutcome} → o ≡ p → (o ≡ q) ↔ (p ≡ q)
same_outcome e = ((λ h. sym e ∙ h), (λ h. e ∙ h))

itself : {A : Type 0} → A ↔ A
itself = ((λ a. a), (λ a. a))

module _ (t : ShareTold) (us : List ShareTold) (output : List ℕ) (w : All Writable (t ∷ us))
    (h : Only (gather_lines (texts_joined (t ∷ us)) output) Disagree board_order) where
  abbrev z : Sizes
  z = t.sizes

  abbrev xs : List ℕ
  xs = t.points

  abbrev ts : List ShareTold
  ts = t ∷ us

  -- the shares are those of a file
  abbrev Told : List ℕ → Type 0
  Told file = All (λ u. u.share ≡ share z xs file u.node) ts

  told_is : (file : List ℕ) → length file ≡ t.length → (shares z xs file (nodes_of ts) ≡ shares_of ts) ↔ Told file
  unfolding shares
  told_is file e =
      let long : (i : ℕ) → length (share z xs file i) ≡ width t =
      λ i. length-share z xs (legal-facts z (facts-of t w.0.0).is-legal) file i ∙ ap (λ (L : ℕ). stripes z L * α z) e in
      (each-share z xs file (width t) ts (shares-wide t us output w h) long, shares_each z xs file (width t) ts)

  called : gather_call (texts_joined ts) output ≡ file_call z xs t.length (nodes_of ts) (shares_of ts) output
  called = is-file t us output w (all-like t us output w h)

  gather-exact : ((file : List ℕ) → length file ≡ t.length → Bytes file
      → (gather_call (texts_joined ts) output ≡ record { answer = said (Ok t.length); output = over file output }) ↔ Told file)
      × ((gather_call (texts_joined ts) output ≡ record { answer = said (Err Disagree); output = output })
      ↔ ((file : List ℕ) → length file ≡ t.length → Bytes file → Told file → ⊥))
  gather-exact =
      let e = (board.demand-1).file-exact z xs t.length (nodes_of ts) (shares_of ts) output (shares-bytes ts w) (only-file t us output w h) in (
        λ file l bf. through (same_outcome called) (told_is file l) (e.0 file l bf),
        through (same_outcome called) (
          (λ f file l bf s. f file l bf ((told_is file l).1 s)),
          (λ f file l bf s. f file l bf ((told_is file l).0 s)),
        )
            e.1,
      )

-- ---- each line by what was written

-- the claims by the texts that were read
abbrev claims_by : List ℕ → List ℕ → Option (List ShareTold) → List Claim
claims_by text output o =
    let ts = texts_told o in
    Text means ((us : List ShareTold) → All Writable us → text ≡ texts_joined us → ⊥)
    ∷ Mixed means (All (Like (first_of ts)) ts → ⊥)
    ∷ Count means ((1 ≤ length ts) × (length ts ≡ (first_of ts).sizes.k) → ⊥)
    ∷ Repeat means (different (nodes_of ts) ≡ false)
    ∷ Short means (length output < (first_of ts).length)
    ∷ Disagree means (gathered ts ≡ none)
    ∷ []

gather-says : (t : ShareTold) (us : List ShareTold) (output : List ℕ) → All Writable (t ∷ us)
    → LinesSay (gather_lines (texts_joined (t ∷ us)) output) (written_claims t us output)
unfolding gathered
gather-says t us output w =
    let text = texts_joined (t ∷ us) in
    subst (λ (o : Option (List ShareTold)). LinesSay (gather_lines text output) (claims_by text output o)) ((texts-told text (t ∷ us)).1 (refl, w)) (gather-lines text output)

pub demand-1 : TextCalls
demand-1 = record {
  read-lines = read-lines;
  gather-lines = gather-lines;
  gather-says = gather-says;
  read-ends = read-ends;
  gather-ends = gather-ends;
  reader-gives = reader-gives;
  gather-is-file = λ t us output w l. is-file t us output w l;
  gather-gives = λ z xs file boards output ok taken bf few named room. gather-gives z xs file ok taken bf few boards output named room;
  gather-exact = gather-exact;
}
