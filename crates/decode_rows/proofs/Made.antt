-- A sum of rows by their tables, as the sum of its bytes.
-- Assumes nothing.
use mathlib.Core.Path.{◌≡◌, refl, sym, ap, ap₂, ◌∙◌}
use mathlib.Core.List.{List, [], ◌∷◌}
use Prim.Native.Nat.{ℕ, zero, suc, ◌+◌, ◌*◌, ◌-◌, ◌<◌, ◌≤◌}
use native.Mathlib.Omega.{arith}
use lib.ListN.{length, get_or, take, drop, replicate, length-replicate, length-drop}
use lib.Seq.{ext_get_or, length-take-le, get_or-take, get_or-drop}
use Rattle.lists.specs.Lists.{tabulate, piece}
use Rattle.lists.proofs.Pieces.{length-tabulate, tabulate-at, tabulate-all, piece-at, length-piece}
use Rattle.gf256.specs.Field.{add, mul}
use Rattle.sizes.proofs.Legal.{row_fits}
use Rattle.polynomial.specs.Polynomial.{scale, sum}
use Rattle.polynomial.proofs.Linear.{plus-at, scale_at, length-plus, length-scale}
use Rattle.row_sums.specs.Steps.{multiples, Tabled, Wide, combined}
use Rattle.decode_laws.specs.Steps.{cell, sums}
use Rattle.decode_laws.proofs.Sums.{sum_below}
use Rattle.decode_laws.proofs.Rows.{length-sums, sums_at, sums-ext}
use Rattle.decode_rows.specs.Steps.{TabledRows}

zeros-at : (m j : ℕ) → get_or {A = ℕ} (replicate m 0) j 0 ≡ 0
zeros-at zero j = refl
zeros-at (suc m) zero = refl
zeros-at (suc m) (suc j) = zeros-at m j

combined-at : (cs : List ℕ) (rs : List (List ℕ)) (j : ℕ) → length cs ≤ length rs
    → get_or (combined cs rs) j 0 ≡ sum (length cs) (λ s. mul (get_or cs s 0) (get_or (get_or rs s []) j 0))
combined-at [] rs j h = zeros-at 32 j
combined-at (c ∷ cs) [] j h = absurd (omega arith)
combined-at (c ∷ cs) (r ∷ rs) j h = plus-at (scale c r) (combined cs rs) j ∙ ap₂ add (scale_at c r j) (combined-at cs rs j (omega arith))

length-combined : (cs : List ℕ) (rs : List (List ℕ)) → Wide rs → length (combined cs rs) ≡ 32
length-combined [] rs w = length-replicate {A = ℕ} 32 0
length-combined (c ∷ cs) [] w = length-replicate {A = ℕ} 32 0
length-combined (c ∷ cs) (r ∷ rs) w =
    let e : length (scale c r) ≡ 32 = length-scale c r ∙ w.0 in
    length-plus (scale c r) (combined cs rs) (e ∙ sym (length-combined cs rs w.1)) ∙ e

module _ (m : ℕ) (rows tables : List ℕ) (lr : m * 32 ≤ length rows) (tr : TabledRows m rows tables) where
  -- the rows, one by one
  abbrev pub each : List (List ℕ)
  each = tabulate m (λ s. piece 32 s rows)

  pub length-each : length each ≡ m
  length-each = length-tabulate m (λ s. piece 32 s rows)

  pub each-wide : Wide each
  each-wide = tabulate-all (λ row. length row ≡ 32) m (λ s. piece 32 s rows) (λ s h. length-piece 32 s rows (omega (arith, row_fits s m 32 h)))

  pub each-tabled : Tabled each tables
  each-tabled i h =
      let q : i < m = omega (arith, length-each) in
      tr i q ∙ ap multiples (sym (tabulate-at m (λ s. piece 32 s rows) [] i q))

  -- their sum
  sum-made : (cs : List ℕ) → length cs ≡ m → combined cs each ≡ sums m (λ s. get_or cs s 0) rows
  sum-made cs l =
      ext_get_or 0 (combined cs each) (sums m (λ s. get_or cs s 0) rows) (length-combined cs each each-wide ∙ sym (length-sums m (λ s. get_or cs s 0) rows))
      (λ j h.
      let j32 : j < 32 = omega (arith, length-combined cs each each-wide) in
      combined-at cs each j (omega (arith, length-each))
      ∙ ap (λ (n : ℕ). sum n (λ s. mul (get_or cs s 0) (get_or (get_or each s []) j 0))) l
      ∙ sum_below m _ (λ s. mul (get_or cs s 0) (cell rows s j)) (λ s q. ap (mul (get_or cs s 0))
      (ap (λ (r : List ℕ). get_or r j 0) (tabulate-at m (λ s. piece 32 s rows) [] s q) ∙ piece-at 32 s rows j 0 j32))
      ∙ sym (sums_at m (λ s. get_or cs s 0) rows j j32))

  -- times m numbers that stand one after another
  pub row_made : (a : List ℕ) (i : ℕ) → i * m + m ≤ length a → combined (take (i * m + m - i * m) (drop (i * m) a)) each ≡ sums m (λ s. get_or a (i * m + s) 0) rows
  row_made a i h =
      let e : i * m + m - i * m ≡ m = omega arith in
      let cs : List ℕ = take m (drop (i * m) a) in
      ap (λ (n : ℕ). combined (take n (drop (i * m) a)) each) e
      ∙ sum-made cs (length-take-le m (drop (i * m) a) (omega (arith, length-drop (i * m) a)))
      ∙ sums-ext m _ _ rows rows (λ s q. get_or-take m (drop (i * m) a) s 0 q ∙ get_or-drop (i * m) a s 0) (λ s j hs hj. refl)

  -- times a column
  pub column-made : (cs : ℕ → ℕ) → combined (tabulate m cs) each ≡ sums m cs rows
  column-made cs =
      sum-made (tabulate m cs) (length-tabulate m cs)
      ∙ sums-ext m _ _ rows rows (λ s q. tabulate-at m cs 0 s q) (λ s j hs hj. refl)
