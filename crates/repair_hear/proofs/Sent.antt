-- What helpers send by factors is what they send by the definition.
-- Assumes nothing.
use mathlib.Core.Path.{◌≡◌, refl, sym, ap, ap₂, ◌∙◌}
use mathlib.Core.Bool.{true}
use mathlib.Core.List.{List, [], ◌∷◌, ◌++◌, map}
use Prim.Native.Nat.{ℕ, zero, suc, ◌+◌, ◌*◌, ◌/◌, ◌%◌, ◌-◌, ◌<◌, ◌≤◌}
use native.Mathlib.Nat.{zero-mul, suc-mul, zero-add, suc-add, add-zero, mul-add-div_right, div-eq_of_lt}
use native.Mathlib.Omega.{arith}
use lib.ListN.{length, get_or, take, drop}
use lib.Seq.{take-take, take-nil, drop-drop}
use Rattle.lists.specs.Tests.{below}
use Rattle.lists.specs.Lists.{Bytes, tabulate, join, piece, fit}
use Rattle.lists.proofs.Put.{part_end}
use Rattle.lists.proofs.Pieces.{tabulate-ext, tabulate-map, join-ext, join-suc, piece-at, piece-join, length-piece}
use Rattle.sizes.specs.declared.Sizes.{Sizes}
use Rattle.sizes.specs.Sizing.{α}
use Rattle.sizes.proofs.Legal.{Legal}
use Rattle.polynomial.specs.Polynomial.{eval}
use Rattle.mbcr.specs.Share.{DifferentPoints, point}
use Rattle.mbcr.specs.Rebuild.{own_f, own_g, helper_pair}
use Rattle.lagrange_factors.specs.Steps.{factors_at}
use Rattle.lagrange_factors.proofs.Values.{board-below}
use Rattle.stripe_helper.specs.Steps.{pair_by}
use Rattle.stripe_helper.proofs.Packets.{pair_is}
use Rattle.repair_factors.specs.Steps.{pair_row, pair_row_at}
use Rattle.repair_factors.proofs.Pairs.{length-pair-row}
use Rattle.repair_hear.specs.Steps.{firsts_of, seconds_of, heard_first, heard_second}

-- ---- runs of d

tabulate-add : (m d : ℕ) (f : ℕ → ℕ) → tabulate (m + d) f ≡ tabulate m f ++ tabulate d (λ t. f (m + t))
tabulate-add zero d f =
    ap (λ (n : ℕ). tabulate n f) (zero-add d) ∙ tabulate-ext d f (λ t. f (0 + t)) (λ t k. ap f (sym (zero-add t)))
tabulate-add (suc m) d f =
    ap (λ (n : ℕ). tabulate n f) (suc-add m d)
    ∙ ap {B = List ℕ} (λ l. f 0 ∷ l) (tabulate-add m d (λ i. f (suc i))
    ∙ ap (λ (l : List ℕ). tabulate m (λ i. f (suc i)) ++ l) (tabulate-ext d (λ t. f (suc (m + t))) (λ t. f (suc m + t)) (λ t k. ap f (sym (suc-add m t)))))

tabulate-runs : (r d : ℕ) (f : ℕ → ℕ) → tabulate (r * d) f ≡ join r (λ a. tabulate d (λ t. f (a * d + t)))
tabulate-runs zero d f = ap (λ (n : ℕ). tabulate n f) (zero-mul d)
tabulate-runs (suc r) d f =
    ap (λ (n : ℕ). tabulate n f) (suc-mul r d) ∙ tabulate-add (r * d) d f
    ∙ ap (λ (l : List ℕ). l ++ tabulate d (λ t. f (r * d + t))) (tabulate-runs r d f)
    ∙ sym (join-suc r (λ a. tabulate d (λ t. f (a * d + t))))

run_of : (a d t : ℕ) → t < d → (a * d + t) / d ≡ a
run_of a d t h = mul-add-div_right {m = d} (omega arith) a t ∙ ap (λ (q : ℕ). a + q) (div-eq_of_lt h) ∙ add-zero a

take-fit : (m n : ℕ) (p : List ℕ) → m ≤ n → take m (fit n p) ≡ fit m p
take-fit zero n p h = refl
take-fit (suc m) zero p h = absurd (omega arith)
take-fit (suc m) (suc n) [] h = ap {B = List ℕ} (λ l. 0 ∷ l) (take-fit m n [] (omega arith))
take-fit (suc m) (suc n) (c ∷ p) h = ap {B = List ℕ} (λ l. c ∷ l) (take-fit m n p (omega arith))

-- ---- by the definition

module _ (z : Sizes) (pts : List ℕ) (legal : Legal z) (apart : DifferentPoints z pts) (fresh helpers : List ℕ) (run : ℕ) (lh : length helpers ≡ length fresh * run)
    (known : below z.n helpers ≡ true) (own : ℕ → List ℕ) (long : (j : ℕ) → j < z.n → length (own j) ≡ α z) (bytes : (j : ℕ) → j < z.n → Bytes (own j))
    (fl gl : ℕ) (hf : z.d + z.r ≤ fl) (hf32 : fl ≤ 32) (hg : z.d ≤ gl) (hg32 : gl ≤ 32) (ff gf : List ℕ)
    (ef : ff ≡ join (length helpers) (pair_row_at pts z.n run (z.d + z.r) fresh helpers))
    (eg : gf ≡ join (length helpers) (pair_row_at pts z.n run z.d fresh helpers)) where
  open z use {n, d, r}

  abbrev m : ℕ
  m = length helpers

  row_of : (c L p : ℕ) (rows : List ℕ) → L ≤ 32 → p < m → rows ≡ join m (pair_row_at pts n run c fresh helpers)
      → take L (piece 32 p rows) ≡ fit L (factors_at pts (tabulate c (λ t. (get_or helpers p 0 + t) % n)) (get_or fresh (p / run) 0))
  unfolding pair_row
  row_of c L p rows h k e =
      ap (take L) (ap (piece 32 p) e ∙ piece-join m 32 (pair_row_at pts n run c fresh helpers) (λ i q. length-pair-row pts n c (get_or helpers i 0) (get_or fresh (i / run) 0)) p k)
      ∙ take-fit L 32 (factors_at pts (tabulate c (λ t. (get_or helpers p 0 + t) % n)) (get_or fresh (p / run) 0)) h

  heard-pair : (p : ℕ) → p < m → let j = get_or helpers p 0 in
      pair_by (d + r) (take fl (piece 32 p ff)) (take gl (piece 32 p gf)) (own j) ≡ helper_pair z pts j (get_or fresh (p / run) 0) (own j)
  heard-pair p k =
      let j : ℕ = get_or helpers p 0 in
      let hj : j < n = board-below n helpers p known k in
      pair_is z pts legal apart j (get_or fresh (p / run) 0) hj fl gl (take fl (piece 32 p ff)) (take gl (piece 32 p gf)) (own j) hf hg
      (row_of (d + r) fl p ff hf32 k ef) (row_of d gl p gf hg32 k eg) (long j hj) (bytes j hj)

  first-is : (p : ℕ) → p < m → let j = get_or helpers p 0 in
      heard_first (d + r) fl gl ff gf own helpers p ≡ eval (own_f z pts j (own j)) (point pts (get_or fresh (p / run) 0))
  unfolding heard_first helper_pair
  first-is p k = ap (λ (l : List ℕ). get_or l 0 0) (heard-pair p k)

  second_is : (p : ℕ) → p < m → let j = get_or helpers p 0 in
      heard_second (d + r) fl gl ff gf own helpers p ≡ eval (own_g z pts j (own j)) (point pts (get_or fresh (p / run) 0))
  unfolding heard_second helper_pair
  second_is p k = ap (λ (l : List ℕ). get_or l 1 0) (heard-pair p k)

  -- by runs, one for each fresh board
  by_runs : (F : ℕ → ℕ) (g : ℕ → ℕ → ℕ) → ((p : ℕ) → p < m → F p ≡ g (get_or helpers p 0) (get_or fresh (p / run) 0))
      → tabulate m F ≡ join (length fresh) (λ a. map (λ j. g j (get_or fresh a 0)) (piece run a helpers))
  by_runs F g e =
      let t : ℕ = length fresh in
      ap (λ (q : ℕ). tabulate q F) lh ∙ tabulate-runs t run F
      ∙ join-ext t (λ a. tabulate run (λ t. F (a * run + t))) (λ a. map (λ j. g j (get_or fresh a 0)) (piece run a helpers))
      (λ a k. let end = part_end a run t k in
      tabulate-ext run (λ t. F (a * run + t)) (λ t. g (get_or (piece run a helpers) t 0) (get_or fresh a 0))
      (λ t q. e (a * run + t) (omega arith)
      ∙ ap₂ (λ (j b : ℕ). g j (get_or fresh b 0)) (sym (piece-at run a helpers t 0 q)) (run_of a run t q))
      ∙ tabulate-map (λ j. g j (get_or fresh a 0)) run (piece run a helpers) 0 (length-piece run a helpers (omega arith)))

  pub firsts-are : tabulate m (heard_first (d + r) fl gl ff gf own helpers) ≡ join (length fresh) (λ a. firsts_of z pts own (get_or fresh a 0) (piece run a helpers))
  firsts-are = by_runs (heard_first (d + r) fl gl ff gf own helpers) (λ j i. eval (own_f z pts j (own j)) (point pts i)) first-is

  pub seconds-are : tabulate m (heard_second (d + r) fl gl ff gf own helpers) ≡ join (length fresh) (λ a. seconds_of z pts own (get_or fresh a 0) (piece run a helpers))
  seconds-are = by_runs (heard_second (d + r) fl gl ff gf own helpers) (λ j i. eval (own_g z pts j (own j)) (point pts i)) second_is

-- ---- a turn of the loop

pub first-heard : (w fl gl p a b : ℕ) (ff gf f g held : List ℕ) (own : ℕ → List ℕ) (helpers : List ℕ) → f ≡ take fl (piece 32 p ff) → g ≡ take gl (piece 32 p gf)
    → held ≡ own (get_or helpers p 0) → a ∷ b ∷ [] ≡ pair_by w f g held → a ≡ heard_first w fl gl ff gf own helpers p
unfolding heard_first
first-heard w fl gl p a b ff gf f g held own helpers ef eg eh e =
    ap (λ (l : List ℕ). get_or l 0 0) (e ∙ ap₂ (λ (x y : List ℕ). pair_by w x y held) ef eg ∙ ap (pair_by w (take fl (piece 32 p ff)) (take gl (piece 32 p gf))) eh)

pub second-heard : (w fl gl p a b : ℕ) (ff gf f g held : List ℕ) (own : ℕ → List ℕ) (helpers : List ℕ) → f ≡ take fl (piece 32 p ff) → g ≡ take gl (piece 32 p gf)
    → held ≡ own (get_or helpers p 0) → a ∷ b ∷ [] ≡ pair_by w f g held → b ≡ heard_second w fl gl ff gf own helpers p
unfolding heard_second
second-heard w fl gl p a b ff gf f g held own helpers ef eg eh e =
    ap (λ (l : List ℕ). get_or l 1 0) (e ∙ ap₂ (λ (x y : List ℕ). pair_by w x y held) ef eg ∙ ap (pair_by w (take fl (piece 32 p ff)) (take gl (piece 32 p gf))) eh)

-- the first m bytes of a row of w, as they are cut out
pub row-part : (w p m : ℕ) (rows : List ℕ) → m ≤ w → take (p * w + m - p * w) (drop (p * w) rows) ≡ take m (piece w p rows)
unfolding piece
row-part w p m rows h =
    let e : p * w + m - p * w ≡ m = omega arith in
    ap (λ (k : ℕ). take k (drop (p * w) rows)) e ∙ sym (take-take m w (drop (p * w) rows) h)

drop-take : (m k : ℕ) (l : List ℕ) → drop m (take (m + k) l) ≡ take k (drop m l)
drop-take zero k l = ap (λ (n : ℕ). take n l) (zero-add k)
drop-take (suc m) k [] = ap (drop (suc m)) (take-nil (suc m + k)) ∙ sym (take-nil k)
drop-take (suc m) k (x ∷ l) = ap (λ (n : ℕ). drop (suc m) (take n (x ∷ l))) (suc-add m k) ∙ drop-take m k l

-- what stands behind the first m bytes of a row of w
pub row-rest : (w a m : ℕ) (rows : List ℕ) → m ≤ w → take (a * w + w - (a * w + m)) (drop (a * w + m) rows) ≡ drop m (piece w a rows)
unfolding piece
row-rest w a m rows h =
    let e : a * w + w - (a * w + m) ≡ w - m = omega arith in
    let s : m + (w - m) ≡ w = omega arith in
    ap₂ {C = List ℕ} take e (sym (drop-drop m (a * w) rows)) ∙ sym (drop-take m (w - m) (drop (a * w) rows)) ∙ ap (λ (n : ℕ). drop m (take n (drop (a * w) rows))) s
