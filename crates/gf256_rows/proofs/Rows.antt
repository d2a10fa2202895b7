-- A turn of the loop over two rows, and its end: what is done, then `add_scaled` of what is left, is the answer.
-- Assumes nothing.
use mathlib.Core.Path.{◌≡◌, refl, ap, ◌∙◌}
use mathlib.Core.List.{List, [], ◌∷◌, ◌++◌, append_assoc}
use Prim.Native.Nat.{ℕ, suc, ◌+◌, ◌<◌, ◌≤◌}
use native.Mathlib.Nat.{not-suc-le-zero, zero-lt-suc}
use native.Mathlib.Numerals.{add-one}
use native.Mathlib.Omega.{arith}
use lib.ListN.{length, take, drop, get_or, set, take-append-drop, length-drop}
use lib.Seq.{drop-cons, take-suc-set, drop-set-lt}
use Rattle.gf256.specs.Field.{add, mul, add_scaled}

-- the answer, when j symbols are done
abbrev pub answer : ℕ → List ℕ → List ℕ → ℕ → List ℕ
answer c row acc j = take j acc ++ add_scaled c (drop j row) (drop j acc)

pub row-turn : (c : ℕ) (row acc : List ℕ) (j v : ℕ) → j < length row → j < length acc
    → v ≡ add (get_or acc j 0) (mul c (get_or row j 0)) → answer c row (set acc j v) (j + 1) ≡ answer c row acc j
row-turn c row acc j v hr ha e =
    let l : j < suc j = omega arith in
    rw (add-one, take-suc-set, drop-set-lt, append_assoc, drop-cons row j 0, drop-cons acc j 0, e)

nothing_left : (c : ℕ) (row acc : List ℕ) → (0 < length row → length acc ≤ 0) → add_scaled c row acc ≡ acc
nothing_left c [] acc h = refl
nothing_left c (x ∷ row) [] h = refl
nothing_left c (x ∷ row) (a ∷ acc) h = absurd (not-suc-le-zero (h (zero-lt-suc (length row))))

pub row-end : (c : ℕ) (row acc : List ℕ) (j : ℕ) → (j < length row → length acc ≤ j) → answer c row acc j ≡ acc
row-end c row acc j h =
    ap (λ (l : List ℕ). take j acc ++ l)
    (nothing_left c (drop j row) (drop j acc)
    (λ l. let k = h (omega (arith, length-drop j row)) in omega (arith, length-drop j acc)))
    ∙ take-append-drop j acc
