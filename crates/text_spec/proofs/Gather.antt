-- Texts that do not differ are gathered as a file is made of the shares that they tell.
-- Assumes nothing.
use mathlib.Core.Path.{◌≡◌, refl, sym, ap, ap₂, subst, ◌∙◌}
use mathlib.Core.Bool.{true, false, not}
use mathlib.Core.Logic.{inl, inr}
use mathlib.Core.Option.{Option, some}
use mathlib.Core.List.{List, [], ◌∷◌}
use Prim.Native.Nat.{ℕ, ◌*◌, ◌<◌, ◌+◌}
use native.Mathlib.Nat.{zero-mul, suc-mul, add_comm}
use native.Mathlib.Omega.{arith}
use lib.Dec.{leb, eqb}
use lib.ListN.{length, length-append, length-map}
use borrow.Author.Tests.{le-ltb, ltb-true, leb-true, le-leb, eqb-true, eq-eqb}
use Rattle.lists.specs.Tests.{alls, every, given}
use Rattle.lists.specs.Lists.{All, Bytes}
use Rattle.lists.proofs.Alls.{append-all}
use Rattle.lists.proofs.Boards.{all-below}
use Rattle.lists.proofs.Tests.{alls-hold, hold-alls, every-all, all-every, not-no}
use Rattle.sizes.specs.declared.Sizes.{Sizes}
use Rattle.sizes.specs.declared.Refusal.TheVariants.{Size, Area, Long, Count, Node, Repeat, Short, Disagree, Text, Mixed}
use Rattle.sizes.specs.declared.Refusal.{Refusal}
use Rattle.sizes.specs.Sizing.{legal, α, B, stripes}
use Rattle.sizes.specs.Refusals.{number, Line, applies_in, ◌when◌, first, board_order, Check}
use Rattle.sizes.proofs.Orders.{◌also◌, stands, ahead, all-at, Only, only-off, first-same}
use Rattle.mbcr.specs.Share.{pointed, share}
use Rattle.board_spec.specs.Calls.{BoardOutcome, settled, file_of, file_lines, file_call, count_line, repeat_line, short_line}
use Rattle.text_spec.specs.Texts.{ShareTold, texts_joined, texts_of}
use Rattle.text_spec.specs.Calls.{texts_told, first_of, like, nodes_of, shares_of, gathered, gather_lines, gather_call}
use Rattle.text_spec.specs.Laws.{Writable}
use Rattle.text_spec.specs.Demand1.{Like}
use Rattle.text_spec.proofs.Laws.{facts-of, texts-told}
use Rattle.text_spec.proofs.Alike.{like_is}

-- ---- what alike texts tell

-- the length of a share of a text that is like t
abbrev pub width : ShareTold → ℕ
width t = stripes t.sizes t.length * α t.sizes

module _ (t : ShareTold) where
  node-known : (u : ShareTold) → Writable u → Like t u → u.node < t.sizes.n
  node-known u w l = subst (λ (z : Sizes). u.node < z.n) (sym l.0) (ltb-true u.node u.sizes.n (facts-of u w.0).known)

  share-long : (u : ShareTold) → Writable u → Like t u → length u.share ≡ width t
  share-long u w l =
      (facts-of u w.0).long ∙ ap₂ {C = ℕ} (λ (z : Sizes) (L : ℕ). stripes z L * α z) (sym l.0) (sym l.2)

  nodes-known : (us : List ShareTold) → All Writable us → All (Like t) us → All (λ i. i < t.sizes.n) (nodes_of us)
  nodes-known [] w l = tt
  nodes-known (u ∷ us) w l = (node-known u w.0 l.0, nodes-known us w.1 l.1)

  shares-long : (us : List ShareTold) → All Writable us → All (Like t) us → length (shares_of us) ≡ length us * width t
  shares-long [] w l = sym (zero-mul (width t))
  shares-long (u ∷ us) w l =
      let a = length-append u.share (shares_of us) in
      let b = share-long u w.0 l.0 in
      let c = shares-long us w.1 l.1 in
      a ∙ ap₂ ◌+◌ b c ∙ add_comm (width t) (length us * width t) ∙ sym (suc-mul (length us) (width t))

pub shares-bytes : (us : List ShareTold) → All Writable us → Bytes (shares_of us)
shares-bytes [] w = tt
shares-bytes (u ∷ us) w = append-all (λ a. a < 256) u.share (shares_of us) w.0.1 (shares-bytes us w.1)

self : (t : ShareTold) → Like t t
self t = (refl, refl, refl)

-- ---- the call of a file with the same arguments

module _ (t : ShareTold) (us : List ShareTold) (output : List ℕ) (w : All Writable (t ∷ us)) where
  abbrev ts : List ShareTold
  ts = t ∷ us

  abbrev pub as_file : List Line
  as_file = file_lines t.sizes t.points t.length (nodes_of ts) (shares_of ts) output

  read : texts_of (texts_joined ts) ≡ some ts
  read = (texts-told (texts_joined ts) ts).1 (refl, w)

  -- the lines, by the texts
  abbrev pub lines_by : Option (List ShareTold) → List Line
  lines_by o =
      let ts = texts_told o in
      Text when not (given o)
      ∷ Mixed when not (every (like (first_of ts)) ts)
      ∷ count_line (leb 1 (length ts) ∷ eqb (length ts) (first_of ts).sizes.k ∷ [])
      ∷ repeat_line (nodes_of ts)
      ∷ short_line output (first_of ts).length
      ∷ Disagree when not (given (gathered ts))
      ∷ []

  pub lines_are : gather_lines (texts_joined ts) output ≡ lines_by (some ts)
  unfolding gather_lines
  lines_are = ap lines_by read

  length-nodes : length (nodes_of ts) ≡ length ts
  length-nodes = length-map ts (λ (u : ShareTold). u.node)

  module _ (l : All (Like t) us) where
    alike : every (like t) ts ≡ true
    alike = all-every (like t) ts ((like_is t t).1 (self t), likes us l)
      where
        likes : (us : List ShareTold) → All (Like t) us → All (λ u. like t u ≡ true) us
        likes [] h = tt
        likes (u ∷ us) h = ((like_is t u).1 h.0, likes us h.1)

    count_same : not (alls (leb 1 (length ts) ∷ eqb (length ts) t.sizes.k ∷ [])) ≡ not (alls (eqb (length (nodes_of ts)) t.sizes.k ∷ []))
    count_same = rw (le-leb 1 (length ts) (omega arith), length-nodes)

    area-is : length ts ≡ t.sizes.k → length (shares_of ts) ≡ t.sizes.k * width t
    area-is e = shares-long t ts w (self t, l) ∙ ap (λ (m : ℕ). m * width t) e

    counted : not (alls (eqb (length (nodes_of ts)) t.sizes.k ∷ [])) ≡ false → length ts ≡ t.sizes.k
    counted e = sym length-nodes ∙ eqb-true _ _ (alls-hold (eqb (length (nodes_of ts)) t.sizes.k ∷ []) (not-no _ e)).0

    -- once the lines ahead of it are off in the call of a file, a line is the same in both
    abbrev Same : Refusal → Type 0
    Same x = ((y : Refusal) → ahead board_order y x ≡ true → applies_in as_file y ≡ false) → applies_in (lines_by (some ts)) x ≡ applies_in as_file x

    agree : (x : Refusal) → stands board_order x ≡ true → Same x
    unfolding file_lines gathered
    agree x s =
        let f = facts-of t w.0.0 in
        let text : Same Text = λ off. refl in
        let size : Same Size =
        λ off. sym (ap not (hold-alls (legal t.sizes ∷ pointed t.sizes t.points ∷ []) (f.is-legal also f.is-pointed also tt))) in
        let long : Same Long = λ off. sym (le-ltb (4096 * B t.sizes) t.length (leb-true _ _ f.not-long)) in
        let mixed : Same Mixed = λ off. ap not alike in
        let count : Same Count = λ off. count_same in
        let node : Same Node = λ off. sym (ap not (all-below t.sizes.n (nodes_of ts) (nodes-known t ts w (self t, l)))) in
        let repeat : Same Repeat = λ off. refl in
        let area : Same Area =
        λ off. sym (ap not (hold-alls (eqb (length (shares_of ts)) (t.sizes.k * width t) ∷ []) (eq-eqb _ _ (area-is (counted (off Count refl))), tt))) in
        let short : Same Short = λ off. refl in
        let disagree : Same Disagree = λ off. refl in
        all-at Same board_order x s (text also size also long also mixed also count also node also repeat also area also short also disagree also tt)

    pub is-file : gather_call (texts_joined ts) output ≡ file_call t.sizes t.points t.length (nodes_of ts) (shares_of ts) output
    unfolding gather_call gathered file_call
    is-file =
        ap₂ {C = BoardOutcome} (λ (c : Check) (o : Option (List ShareTold)). settled c (file_of (gathered (texts_told o))) output)
        (ap (first board_order) lines_are ∙ first-same (lines_by (some ts)) as_file board_order agree) read

-- ---- where no line but DISAGREE holds

module _ (t : ShareTold) (us : List ShareTold) (output : List ℕ) (w : All Writable (t ∷ us))
    (h : Only (gather_lines (texts_joined (t ∷ us)) output) Disagree board_order) where
  abbrev lines : List Line
  lines = lines_by t us output w (some (t ∷ us))

  by-texts : Only lines Disagree board_order
  by-texts = subst (λ (l : List Line). Only l Disagree board_order) (lines_are t us output w) h

  off : (x : Refusal) → stands board_order x ≡ true → eqb (number x) (number Disagree) ≡ false → applies_in lines x ≡ false
  off = only-off lines Disagree board_order by-texts

  pub all-like : All (Like t) us
  all-like = likes us (every-all (like t) (t ∷ us) (not-no _ (off Mixed refl refl))).1
    where
      likes : (us : List ShareTold) → All (λ u. like t u ≡ true) us → All (Like t) us
      likes [] h = tt
      likes (u ∷ us) h = ((like_is t u).0 h.0, likes us h.1)

  pub only-file : Only (as_file t us output w) Disagree board_order
  unfolding file_lines
  only-file =
      let count = sym (count_same t us output w all-like) ∙ off Count refl refl in
      let f = facts-of t w.0.0 in
      let wide = eq-eqb _ _ (area-is t us output w all-like (counted t us output w all-like count)) in
      inr refl
      also inr (ap not (hold-alls (legal t.sizes ∷ pointed t.sizes t.points ∷ []) (f.is-legal also f.is-pointed also tt)))
      also inr (le-ltb (4096 * B t.sizes) t.length (leb-true _ _ f.not-long))
      also inr refl
      also inr count
      also inr (ap not (all-below t.sizes.n (nodes_of (t ∷ us)) (nodes-known t (t ∷ us) w (self t, all-like))))
      also inr (off Repeat refl refl)
      also inr (ap not (hold-alls (eqb (length (shares_of (t ∷ us))) (t.sizes.k * width t) ∷ []) (wide, tt)))
      also inr (off Short refl refl)
      also inl refl
      also tt

  pub shares-wide : All (λ u. length u.share ≡ width t) (t ∷ us)
  shares-wide = by (t ∷ us) w (self t, all-like)
    where
      by : (us : List ShareTold) → All Writable us → All (Like t) us → All (λ u. length u.share ≡ width t) us
      by [] w l = tt
      by (u ∷ us) w l = (share-long t u w.0 l.0, by us w.1 l.1)
