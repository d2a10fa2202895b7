-- One step of each walk of a list of marks, and of boards by their marks.
-- Assumes nothing.
use Prim.Native.Nat.{ℕ, zero, suc, ◌+◌, ◌<◌}
use mathlib.Core.Path.{◌≡◌, refl, sym, ap, ◌∙◌}
use mathlib.Core.Bool.{Bool, true, false}
use mathlib.Core.List.{List, [], ◌∷◌, ◌++◌, append-nil}
use native.Mathlib.Numerals.{add-one}
use native.Mathlib.Omega.{arith}
use lib.ListN.{length, get_or, drop, set, drop_of_length-le}
use lib.Seq.{drop-cons}
use Rattle.lists.specs.Lists.{tabulate}
use Rattle.lists.specs.Tests.{every}
use Rattle.store_spec.specs.Record.{all_off}

module _ (l : List Bool) (i : ℕ) (h : i < length l) where
  pub off-no : get_or l i false ≡ true → all_off (drop i l) ≡ false
  off-no e = rw (drop-cons l i false, e)

  pub off_next : get_or l i false ≡ false → all_off (drop (i + 1) l) ≡ all_off (drop i l)
  off_next e = rw (add-one, drop-cons l i false, e)

module _ (p : ℕ → Bool) (l : List ℕ) (i : ℕ) (h : i < length l) where
  pub every-no : p (get_or l i 0) ≡ false → every p (drop i l) ≡ false
  every-no e = rw (drop-cons l i 0, e)

  pub every-next : p (get_or l i 0) ≡ true → every p (drop (i + 1) l) ≡ every p (drop i l)
  every-next e = rw (add-one, drop-cons l i 0, e)

-- one mark more, behind those that are filled in
fill-turn : (t : ℕ) (f : ℕ → Bool) (l : List Bool) → t < length l → set (tabulate t f ++ drop t l) t (f t) ≡ tabulate (suc t) f ++ drop (suc t) l
fill-turn zero f (x ∷ l) h = refl
fill-turn zero f [] h = absurd (omega arith)
fill-turn (suc t) f (x ∷ l) h = ap {B = List Bool} (λ r. f 0 ∷ r) (fill-turn t (λ i. f (suc i)) l (omega arith))
fill-turn (suc t) f [] h = absurd (omega arith)

pub fill-marks : (f : ℕ → Bool) (l₀ l : List Bool) (t : ℕ) → t < length l₀ → l ≡ tabulate t f ++ drop t l₀ → set l t (f t) ≡ tabulate (t + 1) f ++ drop (t + 1) l₀
fill-marks f l₀ l t h e = rw (add-one t, e) (fill-turn t f l₀ h)

pub marks-filled : (f : ℕ → Bool) (l : List Bool) (m : ℕ) → length l ≡ m → tabulate m f ++ drop m l ≡ tabulate (length l) f
marks-filled f l m e =
    ap (λ (r : List Bool). tabulate m f ++ r) (drop_of_length-le l {i = m} (omega arith))
    ∙ append-nil (tabulate m f)
    ∙ ap (λ (v : ℕ). tabulate v f) (sym e)
