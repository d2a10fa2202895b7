-- The loop over all boards: what is done of the rows when the helpers below h have theirs.
-- Assumes nothing.
use mathlib.Core.Path.{◌≡◌, refl, sym, ap, ◌∙◌}
use mathlib.Core.Bool.{Bool, true, false}
use mathlib.Core.List.{List, ◌++◌}
use Prim.Native.Nat.{ℕ, ◌+◌, ◌*◌, ◌/◌, ◌%◌, ◌<◌}
use native.Mathlib.Nat.{div-lt_iff_lt-mul}
use native.Mathlib.Omega.{arith}
use borrow.Author.Tests.{lt-ltb, le-ltb, ltb-true, ltb-false, eqb-true, eqb-false, eq-eqb}
use lib.Dec.{eqb, ltb}
use lib.ListN.{length, get_or, take, drop}
use lib.Seq.{take_all, drop_at}
use Rattle.lists.specs.Tests.{pick}
use Rattle.lists.specs.Lists.{tabulate, join, piece, fit}
use Rattle.lists.proofs.Pieces.{join-ext, length-join, join-piece, length-piece, piece-join, length-tabulate, length-fit}
use Rattle.lagrange_rows.specs.Steps.{lagrange_rows}
use Rattle.lagrange_factors.specs.Steps.{factors_at}
use Rattle.lagrange_factors.proofs.Values.{column-is}
use Rattle.repair_factors.specs.Steps.{column_row, pair_row, pair_row_at}

-- ---- rows

pub length-column : (c i : ℕ) (rows : List ℕ) → length (column_row c i rows) ≡ 32
unfolding column_row
length-column c i rows = length-fit 32 (tabulate c (λ t. get_or rows (t * 32 + i) 0))

pub length-pair-row : (pts : List ℕ) (n c j i : ℕ) → length (pair_row pts n c j i) ≡ 32
unfolding pair_row
length-pair-row pts n c j i = length-fit 32 (factors_at pts (tabulate c (λ t. (j + t) % n)) i)

pub length-pick : (t : Bool) (a b : List ℕ) (m : ℕ) → length a ≡ m → length b ≡ m → length (pick t a b) ≡ m
length-pick true a b m h k = h
length-pick false a b m h k = k

-- the next piece is as it was
pub kept_piece : (f : ℕ → List ℕ) (w s : ℕ) (out₀ out : List ℕ) → ((i : ℕ) → i < s → length (f i) ≡ w) → out ≡ join s f ++ drop (s * w) out₀
    → piece w s out ≡ piece w s out₀
unfolding piece
kept_piece f w s out₀ out l e = ap (take w) (ap (drop (s * w)) e ∙ drop_at (join s f) (drop (s * w) out₀) (s * w) (length-join s w f l))

-- the fresh board that a helper serves is one of them
pub served : (p d r : ℕ) → 0 < d → p < r * d → p / d < r
served p d r z h = (div-lt_iff_lt-mul {k = d} {x = p} {y = r} z).1 h

-- ---- all boards

module _ (pts : List ℕ) (n d c : ℕ) (fresh helpers out₀ : List ℕ) where
  abbrev m : ℕ
  m = length helpers

  -- the row of the p-th helper, when those below h have theirs
  abbrev row_to : ℕ → ℕ → List ℕ
  row_to h p = pick (ltb (get_or helpers p 0) h) (pair_row_at pts n d c fresh helpers p) (piece 32 p out₀)

  unfoldable pub rows_to : ℕ → List ℕ
  rows_to h = join m (row_to h)

  long : length out₀ ≡ m * 32 → (h p : ℕ) → p < m → length (row_to h p) ≡ 32
  long l h p k =
      length-pick (ltb (get_or helpers p 0) h) _ _ 32 (length-pair-row pts n c (get_or helpers p 0) (get_or fresh (p / d) 0)) (length-piece 32 p out₀ (omega arith))

  pub rows_start : length out₀ ≡ m * 32 → out₀ ≡ rows_to 0
  unfolding rows_to
  rows_start l =
      sym (join-ext m (row_to 0) (λ p. piece 32 p out₀) (λ p k. ap (λ (t : Bool). pick t (pair_row_at pts n d c fresh helpers p) (piece 32 p out₀)) (le-ltb (get_or helpers p 0) 0 (omega arith)))
      ∙ join-piece m 32 out₀ ∙ take_all (m * 32) out₀ (omega arith))

  pub rows-turn : (h : ℕ) (near rows out out' : List ℕ) → length out₀ ≡ m * 32 → ((p : ℕ) → p < m → get_or fresh (p / d) 0 < 32)
      → near ≡ tabulate c (λ t. (h + t) % n) → rows ≡ lagrange_rows pts near → out ≡ rows_to h
      → out' ≡ join m (λ p. pick (eqb (get_or helpers p 0) h) (column_row c (get_or fresh (p / d) 0) rows) (piece 32 p out)) → out' ≡ rows_to (h + 1)
  unfolding rows_to column_row pair_row
  rows-turn h near rows out out' l b en er eo e' =
      e' ∙ join-ext m (λ p. pick (eqb (get_or helpers p 0) h) (column_row c (get_or fresh (p / d) 0) rows) (piece 32 p out)) (row_to (h + 1))
      (λ p k. one (get_or helpers p 0) (get_or fresh (p / d) 0) (b p k) (piece 32 p out) (piece 32 p out₀)
      (ap (piece 32 p) eo ∙ piece-join m 32 (row_to h) (long l h) p k))
    where
      lc : length near ≡ c
      lc = ap length en ∙ length-tabulate c (λ t. (h + t) % n)

      col : (i : ℕ) → i < 32 → fit 32 (tabulate c (λ t. get_or rows (t * 32 + i) 0)) ≡ fit 32 (factors_at pts (tabulate c (λ t. (h + t) % n)) i)
      col i k =
          column-is pts near rows _ i 32 k er (ap (λ (q : ℕ). fit 32 (tabulate q (λ t. get_or rows (t * 32 + i) 0))) (sym lc))
          ∙ ap (λ (q : List ℕ). fit 32 (factors_at pts q i)) en

      pairs : (t u v : Bool) (j i : ℕ) (a b : List ℕ) → eqb j h ≡ t → ltb j h ≡ u → ltb j (h + 1) ≡ v → i < 32 → a ≡ pick u (pair_row pts n c j i) b
          → pick t (column_row c i rows) a ≡ pick v (pair_row pts n c j i) b
      pairs true u true j i a b et eu ev k e = col i k ∙ ap (λ (q : ℕ). pair_row pts n c q i) (sym (eqb-true j h et))
      pairs true u false j i a b et eu ev k e = absurd (omega (arith, eqb-true j h et, ltb-false j (h + 1) ev))
      pairs false true true j i a b et eu ev k e = e
      pairs false true false j i a b et eu ev k e = absurd (omega (arith, ltb-true j h eu, ltb-false j (h + 1) ev))
      pairs false false false j i a b et eu ev k e = e
      pairs false false true j i a b et eu ev k e =
          absurd (eqb-false j h et (omega (arith, ltb-false j h eu, ltb-true j (h + 1) ev)))

      one : (j i : ℕ) → i < 32 → (a b : List ℕ) → a ≡ pick (ltb j h) (pair_row pts n c j i) b
          → pick (eqb j h) (column_row c i rows) a ≡ pick (ltb j (h + 1)) (pair_row pts n c j i) b
      one j i k a b e = pairs (eqb j h) (ltb j h) (ltb j (h + 1)) j i a b refl refl refl k e

  pub rows_end : (h : ℕ) (out : List ℕ) → ((p : ℕ) → p < m → get_or helpers p 0 < h) → out ≡ rows_to h → out ≡ join m (pair_row_at pts n d c fresh helpers)
  unfolding rows_to
  rows_end h out b e =
      e ∙ join-ext m (row_to h) (pair_row_at pts n d c fresh helpers)
      (λ p k. ap (λ (t : Bool). pick t (pair_row_at pts n d c fresh helpers p) (piece 32 p out₀)) (lt-ltb (get_or helpers p 0) h (b p k)))

-- ---- one row

pub row-taken : (j h c i : ℕ) (rows out₀ out : List ℕ) → j ≡ h → length out₀ ≡ 32 → out ≡ fit (length out₀) (tabulate c (λ t. get_or rows (t * 32 + i) 0))
    → out ≡ pick (eqb j h) (column_row c i rows) out₀
unfolding column_row
row-taken j h c i rows out₀ out e l eo =
    eo ∙ ap (λ (m : ℕ). fit m (tabulate c (λ t. get_or rows (t * 32 + i) 0))) l
    ∙ sym (ap (λ (t : Bool). pick t (fit 32 (tabulate c (λ t. get_or rows (t * 32 + i) 0))) out₀) (eq-eqb j h e))

pub near-is : (h n m c : ℕ) (near : List ℕ) → m ≡ c → near ≡ tabulate m (λ t. (h + t) % n) → near ≡ tabulate c (λ t. (h + t) % n)
near-is h n m c near e en = en ∙ ap (λ (q : ℕ). tabulate q (λ t. (h + t) % n)) e
