-- Stripes put to the output one after another, the last of them cut to its length.
-- Assumes nothing.
use mathlib.Core.Path.{◌≡◌, refl, sym, ap, ap₂, ◌∙◌}
use mathlib.Core.Bool.{true}
use mathlib.Core.List.{List, [], ◌∷◌, ◌++◌, append-nil}
use Prim.Native.Nat.{ℕ, zero, suc, ◌+◌, ◌*◌, ◌-◌, ◌<◌, ◌≤◌}
use native.Mathlib.Nat.{sub-zero, mul_comm, mul-le-mul, mul-le-mul_left, mul-le-mul_right, suc-mul}
use native.Mathlib.Numerals.{add-one}
use native.Mathlib.Decide.{dec_lt}
use native.Mathlib.Omega.{arith}
use lib.Dec.{leb}
use lib.ListN.{length, get_or, take, drop, length-append, length-drop, drop_of_length-le}
use lib.Seq.{take_all, drop-drop, length-take-le}
use borrow.Author.Tests.{leb-true}
use borrow.Rule.Slice.PartMut.{put_mid}
use Rattle.lists.specs.Tests.{every, below, different}
use Rattle.lists.proofs.Tests.{every-all}
use Rattle.lists.proofs.Alls.{all-at}
use Rattle.lists.proofs.Boards.{all-below, distinct-different}
use Rattle.lists.specs.Lists.{tabulate, join, over, piece}
use Rattle.lists.proofs.Pieces.{length-tabulate, tabulate-at, length-join, join-suc}
use Rattle.sizes.specs.declared.Sizes.{Sizes}
use Rattle.sizes.proofs.Legal.{Legal}
use Rattle.mbcr.specs.Share.{points}
use Rattle.mbcr.proofs.Points.{neighbours-boards, length-neighbours}
use Rattle.row_sums.specs.Steps.{multiples}
use Rattle.decode_laws.specs.Steps.{unit_rows, top_rows}
use Rattle.decode_laws.proofs.Loops.{put_next}
use Rattle.decode_stripe.specs.Steps.{Targets, Tables, Work}
use Rattle.decode_setup.specs.Steps.{targets_of, Made}

take_past : (a x : List ℕ) (n : ℕ) → length a ≤ n → take n (a ++ x) ≡ a ++ take (n - length a) x
take_past [] x n h = ap (λ (m : ℕ). take m x) (sym (sub-zero n))
take_past (c ∷ a) x zero h = absurd (omega arith)
take_past (c ∷ a) x (suc n) h =
    let e : suc n - suc (length a) ≡ n - length a = omega arith in
    ap {B = List ℕ} (λ l. c ∷ l) (take_past a x n (omega arith)) ∙ ap (λ (m : ℕ). (c ∷ a) ++ take m x) (sym e)

-- no more than there is
take-least : (b n : ℕ) (l : List ℕ) → length l ≡ b → take (b - (b - n)) l ≡ take n l
take-least b n l h = go (dec_lt n b)
  where
    go : Dec (n < b) → take (b - (b - n)) l ≡ take n l
    go (yes k) = let e : b - (b - n) ≡ n = omega arith in ap (λ (m : ℕ). take m l) e
    go (no k) = take_all (b - (b - n)) l (omega arith) ∙ sym (take_all n l (omega arith))

-- a turn of the loop over the stripes
pub stripes-turn : (f : ℕ → List ℕ) (b L s m : ℕ) → ((i : ℕ) → length (f i) ≡ b) → (out₀ out u y : List ℕ)
    → s * b ≤ L → L ≤ length out₀ → length out ≡ length out₀
    → m ≡ b - (b - (L - s * b)) → out ≡ over (take L (join s f)) out₀ → u ≡ f s → y ≡ take (length (take (s * b + m - s * b) (drop (s * b) out))) u
    → put_mid (s * b) (s * b + m - s * b) out y ≡ over (take L (join (s + 1) f)) out₀
stripes-turn f b L s m lf out₀ out u y h hl lo em eo eu ey =
    let lj : length (join s f) ≡ s * b = length-join s b f (λ i k. lf i) in
    let e1 : take L (join s f) ≡ join s f = take_all L (join s f) (omega arith) in
    let eo' : out ≡ join s f ++ drop (s * b) out₀ = eo ∙ ap (λ (l : List ℕ). over l out₀) e1 ∙ ap (λ (n : ℕ). join s f ++ drop n out₀) lj in
    let e0 : s * b + m - s * b ≡ m = omega arith in
    let lp : length (take (s * b + m - s * b) (drop (s * b) out)) ≡ m = length-take-le _ (drop (s * b) out) (rw length-drop (omega arith)) ∙ e0 in
    let ey' : y ≡ take m (f s) = ey ∙ ap₂ (λ (n : ℕ) (l : List ℕ). take n l) lp eu in
    let ly : length y ≡ m = ap length ey' ∙ length-take-le m (f s) (omega (arith, lf s)) in
    let e2 : take L (join (s + 1) f) ≡ join s f ++ y =
    ap (λ (n : ℕ). take L (join n f)) (add-one s) ∙ ap (take L) (join-suc s f) ∙ take_past (join s f) (f s) L (omega arith)
    ∙ ap (λ (l : List ℕ). join s f ++ l)
    (ap (λ (n : ℕ). take (L - n) (f s)) lj ∙ sym (take-least b (L - s * b) (f s) (lf s)) ∙ ap (λ (n : ℕ). take n (f s)) (sym em) ∙ sym ey') in
    let e3 : length (join s f ++ y) ≡ s * b + m = length-append (join s f) y ∙ ap₂ ◌+◌ lj ly in
    put_next (join s f) (drop (s * b) out₀) y out (s * b) (s * b + m - s * b) lj eo'
    ∙ ap (λ (l : List ℕ). (join s f ++ y) ++ l) (ap (λ (n : ℕ). drop n (drop (s * b) out₀)) e0 ∙ drop-drop m (s * b) out₀ ∙ ap (λ (n : ℕ). drop n out₀) (sym e3))
    ∙ ap (λ (l : List ℕ). over l out₀) (sym e2)

-- at its end the output is full
pub stripes-end : (f : ℕ → List ℕ) (b s n : ℕ) → ((i : ℕ) → length (f i) ≡ b) → (out₀ out : List ℕ) → s ≡ n → length out₀ ≤ n * b
    → out ≡ over (take (length out₀) (join s f)) out₀ → out ≡ take (length out₀) (join n f)
stripes-end f b s n lf out₀ out es h e =
    let lj : length (join n f) ≡ n * b = length-join n b f (λ i k. lf i) in
    let lt : length (take (length out₀) (join n f)) ≡ length out₀ = length-take-le (length out₀) (join n f) (omega arith) in
    e ∙ ap (λ (m : ℕ). over (take (length out₀) (join m f)) out₀) es
    ∙ ap (λ (l : List ℕ). take (length out₀) (join n f) ++ l) (drop_of_length-le out₀ {i = length (take (length out₀) (join n f))} (omega arith))
    ∙ append-nil (take (length out₀) (join n f))

-- each stripe starts in the output
pub starts-in : (b L n s : ℕ) → n * b ≤ L + b → s < n → s * b ≤ L
starts-in b L n s h k =
    let p : suc s * b ≤ n * b = mul-le-mul_right b k in
    let e : suc s * b ≡ s * b + b = suc-mul s b in
    omega arith

-- the arrays for work stay as long as they are
pub record Kept (fs₀ gs₀ vf₀ vg₀ tp₀ rows₀ columns₀ fs gs vf vg tp rows columns : List ℕ) : Type 0 where
  pub f-rows : length fs ≡ length fs₀
  pub g-rows : length gs ≡ length gs₀
  pub f-values : length vf ≡ length vf₀
  pub g-values : length vg ≡ length vg₀
  pub g-tops : length tp ≡ length tp₀
  pub all-rows : length rows ≡ length rows₀
  pub all-columns : length columns ≡ length columns₀

pub work-kept : (z : Sizes) {fs₀ gs₀ vf₀ vg₀ tp₀ rows₀ columns₀ fs gs vf vg tp rows columns : List ℕ} → Work z fs₀ gs₀ vf₀ vg₀ tp₀ rows₀ columns₀
    → Kept fs₀ gs₀ vf₀ vg₀ tp₀ rows₀ columns₀ fs gs vf vg tp rows columns → Work z fs gs vf vg tp rows columns
work-kept z w k =
    record {
      f-rows = k.f-rows ∙ w.f-rows;
      g-rows = k.g-rows ∙ w.g-rows;
      f-values = k.f-values ∙ w.f-values;
      g-values = k.g-values ∙ w.g-values;
      g-tops = k.g-tops ∙ w.g-tops;
      all-rows = k.all-rows ∙ w.all-rows;
      all-columns = k.all-columns ∙ w.all-columns;
    }

-- ---- how long the arrays are at most

tops-test : every (λ k. leb (k * (32 - k)) 256) (tabulate 32 (λ k. k)) ≡ true
tops-test = refl

module _ (z : Sizes) (legal : Legal z) where
  open z use {n, k, d, r}

  d-most : d ≤ 31
  d-most = omega (arith, legal.some-fresh, legal.enough, legal.few)

  k-most : k ≤ 31
  k-most = omega (arith, legal.read-helpers, d-most)

  pub values-few : k * (d + r) ≤ 992
  values-few =
      let w : d + r ≤ 32 = omega (arith, legal.enough, legal.few) in
      let p : k * (d + r) ≤ 31 * 32 = mul-le-mul k-most w in
      omega arith

  squares : k * (32 - k) ≤ 256
  squares =
      let ks : List ℕ = tabulate 32 (λ k. k) in
      let e : leb (get_or ks k 0 * (32 - get_or ks k 0)) 256 ≡ true =
      all-at (λ k. leb (k * (32 - k)) 256 ≡ true) 0 ks (every-all (λ k. leb (k * (32 - k)) 256) ks tops-test) k (rw (length-tabulate 32 (λ (k : ℕ). k)) (omega (arith, k-most))) in
      leb-true _ _ (sym (ap (λ (k : ℕ). leb (k * (32 - k)) 256) (tabulate-at 32 (λ k. k) 0 k (omega (arith, k-most)))) ∙ e)

  pub tops-few : (d - k) * k ≤ 256
  tops-few =
      let p : k * (d - k) ≤ k * (32 - k) = mul-le-mul_left k (omega (arith, d-most)) in
      omega (arith, p, squares, mul_comm (d - k) k)

-- ---- the tables, as they are lent

pub tables-lent : (z : Sizes) (xs boards tables T : List ℕ) → T ≡ targets_of z boards → Made z xs boards tables
    → Tables z xs boards T
    (take (z.k * ((z.n - (z.d + z.r)) * 32) - 0) (drop 0 tables))
    (take (7680 + z.k * ((z.n - z.d) * 32) - 7680) (drop 7680 tables))
    (take (15872 + (z.d + z.r) * 512 - 15872) (drop 15872 tables))
    (take (48128 + (z.d - z.k) * 32 - 48128) (drop 48128 tables))
    (take (32256 + z.d * 512 - 32256) (drop 32256 tables))
tables-lent z xs boards tables T eT m =
    let f : z.k * ((z.n - (z.d + z.r)) * 32) - 0 ≡ z.k * ((z.n - (z.d + z.r)) * 32) = omega arith in
    let g : 7680 + z.k * ((z.n - z.d) * 32) - 7680 ≡ z.k * ((z.n - z.d) * 32) = omega arith in
    let u : 15872 + (z.d + z.r) * 512 - 15872 ≡ (z.d + z.r) * 512 = omega arith in
    let t : 48128 + (z.d - z.k) * 32 - 48128 ≡ (z.d - z.k) * 32 = omega arith in
    let e : 32256 + z.d * 512 - 32256 ≡ z.d * 512 = omega arith in
    let a = m.are in
    record {
      f-factors = ap (λ (n : ℕ). take n tables) f ∙ a.f-factors;
      g-factors = ap (λ (n : ℕ). take n (drop 7680 tables)) g ∙ a.g-factors;
      units-long = ap (λ (n : ℕ). length (take n (drop 15872 tables))) u ∙ a.units-long;
      units = λ s h.
          ap (λ (n : ℕ). piece 512 s (take n (drop 15872 tables))) u ∙ a.units s h ∙ ap (λ (l : List ℕ). multiples (piece 32 s (unit_rows (points xs l)))) (sym eT);
      tops = ap (λ (n : ℕ). take n (drop 48128 tables)) t ∙ a.tops ∙ ap (λ (l : List ℕ). top_rows z.k (points xs (take z.d l))) (sym eT);
      seeds-long = ap (λ (n : ℕ). length (take n (drop 32256 tables))) e ∙ a.seeds-long;
      seeds = λ s h. ap (λ (n : ℕ). piece 512 s (take n (drop 32256 tables))) e ∙ a.seeds s h;
    }

pub targets-are : (z : Sizes) → Legal z → (boards T : List ℕ) → get_or boards 0 0 < z.n → T ≡ targets_of z boards → Targets z T
targets-are z legal boards T h e =
    let b = neighbours-boards z (get_or boards 0 0) (z.d + z.r) h legal.enough in
    record {
      counted = ap length e ∙ length-neighbours z (get_or boards 0 0) (z.d + z.r);
      known = ap (below z.n) e ∙ all-below z.n (targets_of z boards) b.known;
      unlike = ap different e ∙ distinct-different (targets_of z boards) b.once;
    }
