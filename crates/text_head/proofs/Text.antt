-- The head of a text is what stands at its place.
-- Assumes nothing.
use mathlib.Core.Path.{◌≡◌, refl, sym, ap, subst⁻¹, ◌∙◌}
use mathlib.Core.Bool.{Bool, true, false, not}
use mathlib.Core.Option.{Option, some, none}
use mathlib.Core.List.{List, [], ◌∷◌, ◌++◌}
use Prim.Native.Nat.{ℕ, zero, suc, ◌*◌, ◌≤◌, ◌<◌}
use native.Mathlib.Nat.{add-zero}
use native.Mathlib.Omega.{arith}
use lib.Dec.{ltb, leb, eqb}
use lib.ListN.{length, get_or, take, drop, replicate, length-append, length-drop}
use lib.Seq.{get_or-drop}
use borrow.Author.Tests.{leb-true}
use Rattle.lists.specs.Tests.{pick, alls, same}
use Rattle.lists.specs.Lists.{fit, tabulate}
use Rattle.lists.proofs.Pieces.{take-fit}
use Rattle.lists.proofs.Tests.{true-false, alls-hold}
use Rattle.point_lines.specs.Lines.{read_points}
use Rattle.sizes.specs.declared.Sizes.{Sizes}
use Rattle.sizes.specs.Sizing.{legal, α, B, stripes}
use Rattle.mbcr.specs.Share.{pointed, standard}
use Rattle.text_lines.specs.Steps.{in_order}
use Rattle.text_spec.specs.Texts.{text_of, admitted, tellable, some_points, data_at, points_at, Found, found, text_at}
use Rattle.text_spec.proofs.Laws.{reads-writes, text-begins}
use Rattle.text_in.specs.declared.Told.{Told}
use Rattle.text_in.specs.Steps.{pairs_line_at, bytes_at}
use Rattle.text_places.proofs.Pairs.{line-by, line-told}
use Rattle.text_places.proofs.Heads.{six-by}
use Rattle.text_head.specs.declared.Six.{Six}
use Rattle.text_head.specs.declared.Pointed.{Pointed}
use Rattle.text_head.specs.declared.Head.{Head}
use Rattle.text_head.specs.Steps.{six_at, unpointed, said_at, pointed_at, told_by, found_by, Stands}

-- a choice of what is done with the points
chosen : (z : Sizes) (xs : List ℕ) (t : Told) (text : List ℕ) (go : List ℕ → List ℕ → Option Found)
    → pick t.ok (pick (tellable z xs) (go (fit 32 xs) (drop t.next text)) none) none
    ≡ (let p = said_at z xs t in pick p.ok (go p.points (drop p.next text)) none)
chosen z xs t text go = by t.ok (tellable z xs)
  where
    by : (a b : Bool) → pick a (pick b (go (fit 32 xs) (drop t.next text)) none) none
        ≡ (let p = pick a (pick b (record { ok = true; points = fit 32 xs; next = t.next }) unpointed) unpointed in pick p.ok (go p.points (drop p.next text)) none)
    by true true = refl
    by true false = refl
    by false b = refl

-- the points of a text, by what is told of them
points-by : (text : List ℕ) (m : ℕ) (z : Sizes) (go : List ℕ → List ℕ → Option Found)
    → some_points none z (drop m text) go ≡ pick (pointed_at text m z).ok (go (pointed_at text m z).points (drop (pointed_at text m z).next text)) none
unfolding some_points pointed_at
points-by text m z go =
    let line = pairs_line_at text m 0 z.n in
    ap (λ (b : ℕ). pick (eqb b 0x70) (read_points none z.n (drop m text) (λ xs input. pick (tellable z xs) (go (fit 32 xs) input) none)) (go (standard z) (drop m text)))
    (get_or-drop m text 0 0 ∙ ap (λ (i : ℕ). get_or text i 0) (add-zero m))
    ∙ by (eqb (get_or text m 0) 0x70)
  where
    by : (t : Bool) → pick t (read_points none z.n (drop m text) (λ xs input. pick (tellable z xs) (go (fit 32 xs) input) none)) (go (standard z) (drop m text))
        ≡ (let line = pairs_line_at text m 0 z.n in
        let p = pick t (said_at z (bytes_at text line.value z.n) line) (record { ok = true; points = standard z; next = m }) in
        pick p.ok (go p.points (drop p.next text)) none)
    by true =
        line-by text m 0 z.n (λ xs input. pick (tellable z xs) (go (fit 32 xs) input) none)
        ∙ chosen z (bytes_at text (pairs_line_at text m 0 z.n).value z.n) (pairs_line_at text m 0 z.n) text go
    by false = refl

-- ---- the head

module _ (text : List ℕ) (at : ℕ) where
  abbrev six : Six
  six = six_at text at

  from-six : text_at (drop at text) ≡ pick six.ok (points_at six.sizes six.node six.length (drop six.next text)) none
  unfolding text_at
  from-six = six-by text at

  -- no text
  pub no-stand : (h : Head) → h.ok ≡ false → text_at (drop at text) ≡ none → Stands text at h
  no-stand h e q = record {
    is-text = q ∙ sym (ap (λ (t : Bool). pick t (some (record { told = told_by text h; behind = drop h.next text })) none) e);
    counts = λ o. absurd (true-false o e);
    within = λ o. absurd (true-false o e);
    ends = λ o. absurd (true-false o e);
    grows = λ o. absurd (true-false o e);
  }

  pub none-six : six.ok ≡ false → text_at (drop at text) ≡ none
  none-six e = from-six ∙ ap (λ (t : Bool). pick t (points_at six.sizes six.node six.length (drop six.next text)) none) e

  module _ (o : six.ok ≡ true) where
    some-six : text_at (drop at text) ≡ points_at six.sizes six.node six.length (drop six.next text)
    some-six = from-six ∙ ap (λ (t : Bool). pick t (points_at six.sizes six.node six.length (drop six.next text)) none) o

    pub none-admitted : admitted six.sizes six.node six.length ≡ false → text_at (drop at text) ≡ none
    none-admitted e = some-six ∙ ap (λ (t : Bool). pick t (some_points none six.sizes (drop six.next text) (data_at six.sizes six.node six.length)) none) e

    module _ (a : admitted six.sizes six.node six.length ≡ true) where
      abbrev p : Pointed
      p = pointed_at text six.next six.sizes

      some-admitted : text_at (drop at text) ≡ pick p.ok (data_at six.sizes six.node six.length p.points (drop p.next text)) none
      some-admitted =
          some-six
          ∙ ap (λ (t : Bool). pick t (some_points none six.sizes (drop six.next text) (data_at six.sizes six.node six.length)) none) a
          ∙ points-by text six.next six.sizes (data_at six.sizes six.node six.length)

      pub none-pointed : p.ok ≡ false → text_at (drop at text) ≡ none
      none-pointed e = some-admitted ∙ ap (λ (t : Bool). pick t (data_at six.sizes six.node six.length p.points (drop p.next text)) none) e

      module _ (q : p.ok ≡ true) where
        abbrev count : ℕ
        count = stripes six.sizes six.length * α six.sizes

        abbrev data-line : Told
        data-line = pairs_line_at text p.next 1 count

        abbrev head : Head
        head = record {
          ok = data-line.ok;
          sizes = six.sizes;
          points = p.points;
          node = six.node;
          length = six.length;
          count = count;
          place = data-line.value;
          next = data-line.next;
        }

        is-text : text_at (drop at text) ≡ found_by text head
        is-text =
            some-admitted
            ∙ ap (λ (t : Bool). pick t (data_at six.sizes six.node six.length p.points (drop p.next text)) none) q
            ∙ line-by text p.next 1 count (found six.sizes six.node six.length p.points)

        shorter : data-line.ok ≡ true → at < data-line.next
        shorter e =
            let h = reads-writes (drop at text) (record { told = told_by text head; behind = drop data-line.next text })
            (is-text ∙ ap (λ (t : Bool). pick t (some (record { told = told_by text head; behind = drop data-line.next text })) none) e) in
            let l = ap length h.0 ∙ length-append (text_of (told_by text head)) (drop data-line.next text) in
            let b = ap length (text-begins (told_by text head)).1 in
            omega (arith, l, b, length-drop at text, length-drop data-line.next text, (line-told text p.next 1 count).ends e)

        pub stands : Stands text at head
        stands =
            let t = line-told text p.next 1 count in
            record { is-text = is-text; counts = λ e. refl; within = t.within; ends = t.ends; grows = shorter }

-- ---- points in 32 bytes

zeros-fit : (m : ℕ) → replicate m 0 ≡ fit m []
zeros-fit zero = refl
zeros-fit (suc m) = ap {B = List ℕ} (λ l. 0 ∷ l) (zeros-fit m)

pub fill-fit : (m : ℕ) (xs : List ℕ) → length xs ≤ m → xs ++ drop (length xs) (replicate m 0) ≡ fit m xs
fill-fit m [] h = zeros-fit m
fill-fit zero (x ∷ xs) h = absurd (omega arith)
fill-fit (suc m) (x ∷ xs) h = ap {B = List ℕ} (λ l. x ∷ l) (fill-fit m xs (omega arith))

-- what the test of 32 points asks of those that the line gives
pub told_is : (z : Sizes) (xs : List ℕ) → length xs ≡ z.n → z.n ≤ 32
    → alls (pointed z (fit 32 xs) ∷ not (in_order (take z.n (fit 32 xs))) ∷ []) ≡ tellable z xs
told_is z xs e few =
    let t : take z.n (fit 32 xs) ≡ xs = ap (λ (m : ℕ). take m (fit 32 xs)) (sym e) ∙ take-fit 32 xs (omega (arith, few)) in
    ap (λ (l : List ℕ). alls (pointed z (fit 32 xs) ∷ not (in_order l) ∷ [])) t
    ∙ ap (λ (m : ℕ). alls (pointed z (fit 32 xs) ∷ not (same xs (tabulate m (λ i. i))) ∷ [])) e

-- ---- the same of what calls gave

-- the head of what was read
abbrev made : Six → Pointed → ℕ → Told → Head
made s p count l = record {
  ok = l.ok;
  sizes = s.sizes;
  points = p.points;
  node = s.node;
  length = s.length;
  count = count;
  place = l.value;
  next = l.next;
}

module _ (text : List ℕ) (at : ℕ) (s : Six) (es : s ≡ six_at text at) where
  pub no_six : s.ok ≡ false → text_at (drop at text) ≡ none
  no_six = subst⁻¹ (λ (s : Six). s.ok ≡ false → text_at (drop at text) ≡ none) es (none-six text at)

  pub no-sizes : s.ok ≡ true → admitted s.sizes s.node s.length ≡ false → text_at (drop at text) ≡ none
  no-sizes = subst⁻¹ (λ (s : Six). s.ok ≡ true → admitted s.sizes s.node s.length ≡ false → text_at (drop at text) ≡ none) es (none-admitted text at)

  pub no-points : (p : Pointed) → p ≡ pointed_at text s.next s.sizes → s.ok ≡ true → admitted s.sizes s.node s.length ≡ true → p.ok ≡ false
      → text_at (drop at text) ≡ none
  no-points =
      subst⁻¹ (λ (s : Six). (p : Pointed) → p ≡ pointed_at text s.next s.sizes → s.ok ≡ true → admitted s.sizes s.node s.length ≡ true
      → p.ok ≡ false → text_at (drop at text) ≡ none) es
      (λ p ep o a e. none-pointed text at o a (ap (λ (p : Pointed). p.ok) (sym ep) ∙ e))

  pub all-stand : (p : Pointed) → p ≡ pointed_at text s.next s.sizes → s.ok ≡ true → admitted s.sizes s.node s.length ≡ true → p.ok ≡ true
      → (count : ℕ) → count ≡ stripes s.sizes s.length * α s.sizes → (l : Told) → l ≡ pairs_line_at text p.next 1 count → Stands text at (made s p count l)
  all-stand =
      subst⁻¹ (λ (s : Six). (p : Pointed) → p ≡ pointed_at text s.next s.sizes → s.ok ≡ true → admitted s.sizes s.node s.length ≡ true → p.ok ≡ true
      → (count : ℕ) → count ≡ stripes s.sizes s.length * α s.sizes → (l : Told) → l ≡ pairs_line_at text p.next 1 count → Stands text at (made s p count l)) es
      (λ p ep. subst⁻¹ (λ (p : Pointed). (six_at text at).ok ≡ true → admitted (six_at text at).sizes (six_at text at).node (six_at text at).length ≡ true → p.ok ≡ true
      → (count : ℕ) → count ≡ stripes (six_at text at).sizes (six_at text at).length * α (six_at text at).sizes
      → (l : Told) → l ≡ pairs_line_at text p.next 1 count → Stands text at (made (six_at text at) p count l)) ep
      (λ o a q count ec. subst⁻¹ (λ (count : ℕ). (l : Told) → l ≡ pairs_line_at text (pointed_at text (six_at text at).next (six_at text at).sizes).next 1 count
      → Stands text at (made (six_at text at) (pointed_at text (six_at text at).next (six_at text at).sizes) count l)) ec
      (λ l el. subst⁻¹ (λ (l : Told). Stands text at (made (six_at text at) (pointed_at text (six_at text at).next (six_at text at).sizes) (count_of text at) l)) el (stands text at o a q))))
    where
      count_of : List ℕ → ℕ → ℕ
      count_of text at = stripes (six_at text at).sizes (six_at text at).length * α (six_at text at).sizes

-- what is admitted
pub legal-admitted : (z : Sizes) (node L : ℕ) → admitted z node L ≡ true → (legal z ≡ true) × (L ≤ 4096 * B z)
unfolding admitted
legal-admitted z node L h =
    let e = alls-hold (legal z ∷ leb L (4096 * B z) ∷ ltb node z.n ∷ []) h in
    (e.0, leb-true L (4096 * B z) e.1.0)
