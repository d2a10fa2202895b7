-- How long the tables of a read are at most, and that each is in its place when all five are.
-- Assumes nothing.
use mathlib.Core.Path.{◌≡◌, refl, sym, ap, ap₂, subst, ◌∙◌}
use mathlib.Core.Bool.{true}
use mathlib.Core.List.{List}
use Prim.Native.Nat.{ℕ, ◌+◌, ◌*◌, ◌-◌, ◌<◌, ◌≤◌}
use native.Mathlib.Nat.{mul-le-mul, mul-le-mul_right}
use native.Mathlib.Omega.{arith}
use lib.Dec.{leb}
use lib.ListN.{length, get_or, take, drop}
use lib.Seq.{length-take-le}
use borrow.Author.Tests.{leb-true}
use Rattle.lists.specs.Tests.{every}
use Rattle.lists.specs.Lists.{tabulate, piece, put}
use Rattle.lists.proofs.Tests.{every-all}
use Rattle.lists.proofs.Alls.{all-at}
use Rattle.lists.proofs.Pieces.{length-tabulate, tabulate-at, length-join, piece-join, length-piece}
use Rattle.lists.proofs.Put.{length-put, put_same, put-before}
use Rattle.sizes.specs.declared.Sizes.{Sizes}
use Rattle.sizes.proofs.Legal.{Legal, row_fits}
use Rattle.mbcr.specs.Share.{points}
use Rattle.mbcr.proofs.Points.{length-points, length-neighbours}
use Rattle.row_sums.specs.Steps.{multiples}
use Rattle.row_sums.proofs.Tables.{length-multiples}
use Rattle.decode_laws.specs.Steps.{seed_rows, unit_rows, top_rows, factor_rows}
use Rattle.decode_laws.proofs.Held.{length-factor-rows}
use Rattle.decode_rows.specs.Steps.{TabledRows}
use Rattle.decode_stripe.proofs.Made.{length-units, length-seed-rows, length-tops}
use Rattle.setup_rows.specs.Steps.{tables_of}
use Rattle.decode_setup.specs.Steps.{targets_of, Made}

-- ---- how long they are

f-test : every (λ d. leb (d * ((31 - d) * 32)) 7680) (tabulate 32 (λ d. d)) ≡ true
f-test = refl

g-test : every (λ d. leb (d * ((32 - d) * 32)) 8192) (tabulate 32 (λ d. d)) ≡ true
g-test = refl

number : (d : ℕ) → d < 32 → get_or (tabulate 32 (λ d. d)) d 0 ≡ d
number d h = tabulate-at 32 (λ d. d) 0 d h

f-most : (d : ℕ) → d < 32 → d * ((31 - d) * 32) ≤ 7680
f-most d h =
    let ds : List ℕ = tabulate 32 (λ d. d) in
    let e : leb (get_or ds d 0 * ((31 - get_or ds d 0) * 32)) 7680 ≡ true =
    all-at (λ d. leb (d * ((31 - d) * 32)) 7680 ≡ true) 0 ds (every-all (λ d. leb (d * ((31 - d) * 32)) 7680) ds f-test) d (rw (length-tabulate 32 (λ (d : ℕ). d)) h) in
    leb-true _ _ (sym (ap (λ (d : ℕ). leb (d * ((31 - d) * 32)) 7680) (number d h)) ∙ e)

g-most : (d : ℕ) → d < 32 → d * ((32 - d) * 32) ≤ 8192
g-most d h =
    let ds : List ℕ = tabulate 32 (λ d. d) in
    let e : leb (get_or ds d 0 * ((32 - get_or ds d 0) * 32)) 8192 ≡ true =
    all-at (λ d. leb (d * ((32 - d) * 32)) 8192 ≡ true) 0 ds (every-all (λ d. leb (d * ((32 - d) * 32)) 8192) ds g-test) d (rw (length-tabulate 32 (λ (d : ℕ). d)) h) in
    leb-true _ _ (sym (ap (λ (d : ℕ). leb (d * ((32 - d) * 32)) 8192) (number d h)) ∙ e)

module _ (z : Sizes) (legal : Legal z) where
  open z use {n, k, d, r}

  pub f-few : k * ((n - (d + r)) * 32) ≤ 7680
  f-few =
      let p : k * ((n - (d + r)) * 32) ≤ d * ((31 - d) * 32) =
      mul-le-mul legal.read-helpers (mul-le-mul_right 32 (omega (arith, legal.some-fresh, legal.few))) in
      omega (arith, p, f-most d (omega (arith, legal.some-fresh, legal.enough, legal.few)))

  pub g-few : k * ((n - d) * 32) ≤ 8192
  g-few =
      let p : k * ((n - d) * 32) ≤ d * ((32 - d) * 32) =
      mul-le-mul legal.read-helpers (mul-le-mul_right 32 (omega (arith, legal.few))) in
      omega (arith, p, g-most d (omega (arith, legal.some-fresh, legal.enough, legal.few)))

  -- for boards that are k
  pub f-room : (bs : List ℕ) → length bs ≡ k → length bs * ((n - (d + r)) * 32) ≤ 7680
  f-room bs lb = omega (arith, ap (λ (m : ℕ). m * ((n - (d + r)) * 32)) lb, f-few)

  pub g_room : (bs : List ℕ) → length bs ≡ k → length bs * ((n - d) * 32) ≤ 8192
  g_room bs lb = omega (arith, ap (λ (m : ℕ). m * ((n - d) * 32)) lb, g-few)

-- ---- tables of rows

module _ (m : ℕ) (rows : List ℕ) (lr : length rows ≡ m * 32) where
  each : (s : ℕ) → s < m → length (multiples (piece 32 s rows)) ≡ 512
  each s h = length-multiples (piece 32 s rows) (length-piece 32 s rows (omega (arith, lr, row_fits s m 32 h)))

  length-tables : length (tables_of m rows) ≡ m * 512
  length-tables = length-join m 512 (λ s. multiples (piece 32 s rows)) each

  tabled : TabledRows m rows (tables_of m rows)
  tabled = piece-join m 512 (λ s. multiples (piece 32 s rows)) each

-- ---- five pieces put in one after another

module _ (l a b c d e : List ℕ) (ll : length l ≡ 49152) (ha : length a ≤ 7680) (hb : length b ≤ 8192) (hc : length c ≤ 16384) (hd : length d ≤ 15872) (he : length e ≤ 1024) where
  abbrev l₀ : List ℕ
  l₀ = put l 0 a

  abbrev l₁ : List ℕ
  l₁ = put l₀ 7680 b

  abbrev l₂ : List ℕ
  l₂ = put l₁ 15872 c

  abbrev l₃ : List ℕ
  l₃ = put l₂ 32256 d

  abbrev pub all-put : List ℕ
  all-put = put l₃ 48128 e

  f₀ : 0 + length a ≤ length l
  f₀ = omega (arith, ll, ha)

  f₁ : 7680 + length b ≤ length l₀
  f₁ = omega (arith, length-put l 0 a f₀, ll, hb)

  n₁ : length l₁ ≡ 49152
  n₁ = length-put l₀ 7680 b f₁ ∙ length-put l 0 a f₀ ∙ ll

  f₂ : 15872 + length c ≤ length l₁
  f₂ = omega (arith, n₁, hc)

  n₂ : length l₂ ≡ 49152
  n₂ = length-put l₁ 15872 c f₂ ∙ n₁

  f₃ : 32256 + length d ≤ length l₂
  f₃ = omega (arith, n₂, hd)

  n₃ : length l₃ ≡ 49152
  n₃ = length-put l₂ 32256 d f₃ ∙ n₂

  f₄ : 48128 + length e ≤ length l₃
  f₄ = omega (arith, n₃, he)

  pub put-long : length all-put ≡ 49152
  put-long = length-put l₃ 48128 e f₄ ∙ n₃

  -- each stays as the later ones come
  on₂ : (p w : ℕ) → p + w ≤ 15872 → take w (drop p all-put) ≡ take w (drop p l₁)
  on₂ p w h =
      put-before l₃ 48128 e f₄ p w (omega (arith, h)) ∙ put-before l₂ 32256 d f₃ p w (omega (arith, h)) ∙ put-before l₁ 15872 c f₂ p w h

  pub put_a : (m : ℕ) → length a ≡ m → take m all-put ≡ a
  put_a m h =
      ap (λ (v : ℕ). take v all-put) (sym h) ∙ on₂ 0 (length a) (omega (arith, ha)) ∙ put-before l₀ 7680 b f₁ 0 (length a) (omega (arith, ha)) ∙ put_same l 0 a f₀

  pub put_b : (m : ℕ) → length b ≡ m → take m (drop 7680 all-put) ≡ b
  put_b m h = ap (λ (v : ℕ). take v (drop 7680 all-put)) (sym h) ∙ on₂ 7680 (length b) (omega (arith, hb)) ∙ put_same l₀ 7680 b f₁

  pub put-c : (m : ℕ) → length c ≡ m → take m (drop 15872 all-put) ≡ c
  put-c m h =
      ap (λ (v : ℕ). take v (drop 15872 all-put)) (sym h) ∙ put-before l₃ 48128 e f₄ 15872 (length c) (omega (arith, hc))
      ∙ put-before l₂ 32256 d f₃ 15872 (length c) (omega (arith, hc)) ∙ put_same l₁ 15872 c f₂

  pub put-d : (m : ℕ) → length d ≡ m → take m (drop 32256 all-put) ≡ d
  put-d m h = ap (λ (v : ℕ). take v (drop 32256 all-put)) (sym h) ∙ put-before l₃ 48128 e f₄ 32256 (length d) (omega (arith, hd)) ∙ put_same l₂ 32256 d f₃

  pub put-e : (m : ℕ) → length e ≡ m → take m (drop 48128 all-put) ≡ e
  put-e m h = ap (λ (v : ℕ). take v (drop 48128 all-put)) (sym h) ∙ put_same l₃ 48128 e f₄

-- ---- the tables

module _ (z : Sizes) (legal : Legal z) (xs bs l : List ℕ) (ll : length l ≡ 49152) (lb : length bs ≡ z.k) where
  open z use {n, k, d, r}

  abbrev A : List ℕ
  A = factor_rows z xs (d + r) bs

  abbrev B : List ℕ
  B = factor_rows z xs d bs

  abbrev C : List ℕ
  C = tables_of (d + r) (unit_rows (points xs (targets_of z bs)))

  abbrev D : List ℕ
  D = tables_of d (seed_rows d (points xs bs))

  abbrev E : List ℕ
  E = top_rows k (points xs (take d (targets_of z bs)))

  -- how long each is
  l_a : length A ≡ k * ((n - (d + r)) * 32)
  l_a = length-factor-rows z xs (d + r) bs ∙ ap (λ (m : ℕ). m * ((n - (d + r)) * 32)) lb

  l_b : length B ≡ k * ((n - d) * 32)
  l_b = length-factor-rows z xs d bs ∙ ap (λ (m : ℕ). m * ((n - d) * 32)) lb

  unit-rows : length (unit_rows (points xs (targets_of z bs))) ≡ (d + r) * 32
  unit-rows =
      length-units (points xs (targets_of z bs))
      ∙ ap (λ (m : ℕ). m * 32) (length-points xs (targets_of z bs) ∙ length-neighbours z (get_or bs 0 0) (d + r))

  l_c : length C ≡ (d + r) * 512
  l_c = length-tables (d + r) (unit_rows (points xs (targets_of z bs))) unit-rows

  l_d : length D ≡ d * 512
  l_d = length-tables d (seed_rows d (points xs bs)) (length-seed-rows d (points xs bs))

  l_e : length E ≡ (d - k) * 32
  l_e =
      length-tops k (points xs (take d (targets_of z bs)))
      ∙ ap (λ (m : ℕ). (m - k) * 32)
      (length-points xs (take d (targets_of z bs)) ∙ length-take-le d (targets_of z bs) (omega (arith, length-neighbours z (get_or bs 0 0) (d + r))))

  h_a : length A ≤ 7680
  h_a = omega (arith, l_a, f-few z legal)

  h_b : length B ≤ 8192
  h_b = omega (arith, l_b, g-few z legal)

  h_c : length C ≤ 16384
  h_c = omega (arith, l_c, legal.enough, legal.few)

  h_d : length D ≤ 15872
  h_d = omega (arith, l_d, legal.some-fresh, legal.enough, legal.few)

  h_e : length E ≤ 1024
  h_e = omega (arith, l_e, legal.enough, legal.few)

  put-made : Made z xs bs (all-put l A B C D E ll h_a h_b h_c h_d h_e)
  put-made =
      let pC = put-c l A B C D E ll h_a h_b h_c h_d h_e ((d + r) * 512) l_c in
      let pD = put-d l A B C D E ll h_a h_b h_c h_d h_e (d * 512) l_d in
      record {
        long = put-long l A B C D E ll h_a h_b h_c h_d h_e;
        are = record {
          f-factors = put_a l A B C D E ll h_a h_b h_c h_d h_e (k * ((n - (d + r)) * 32)) l_a;
          g-factors = put_b l A B C D E ll h_a h_b h_c h_d h_e (k * ((n - d) * 32)) l_b;
          units-long = ap length pC ∙ l_c;
          units = λ s h. ap (piece 512 s) pC ∙ tabled (d + r) (unit_rows (points xs (targets_of z bs))) unit-rows s h;
          tops = put-e l A B C D E ll h_a h_b h_c h_d h_e ((d - k) * 32) l_e;
          seeds-long = ap length pD ∙ l_d;
          seeds = λ s h. ap (piece 512 s) pD ∙ tabled d (seed_rows d (points xs bs)) (length-seed-rows d (points xs bs)) s h;
        };
      }

  -- one call after another, at these places
  pub tables-made : (p₁ p₂ p₃ p₄ : ℕ) (y₀ y₁ y₂ y₃ y₄ : List ℕ)
      → y₀ ≡ put l 0 A → y₁ ≡ put y₀ p₁ B → y₂ ≡ put y₁ p₂ C → y₃ ≡ put y₂ p₃ D → y₄ ≡ put y₃ p₄ E
      → p₁ ≡ 7680 → p₂ ≡ 15872 → p₃ ≡ 32256 → p₄ ≡ 48128 → Made z xs bs y₄
  tables-made p₁ p₂ p₃ p₄ y₀ y₁ y₂ y₃ y₄ e₀ e₁ e₂ e₃ e₄ h₁ h₂ h₃ h₄ =
      let q₁ = e₁ ∙ ap₂ {C = List ℕ} (λ (v : List ℕ) (p : ℕ). put v p B) e₀ h₁ in
      let q₂ = e₂ ∙ ap₂ {C = List ℕ} (λ (v : List ℕ) (p : ℕ). put v p C) q₁ h₂ in
      let q₃ = e₃ ∙ ap₂ {C = List ℕ} (λ (v : List ℕ) (p : ℕ). put v p D) q₂ h₃ in
      subst (Made z xs bs) (sym (e₄ ∙ ap₂ {C = List ℕ} (λ (v : List ℕ) (p : ℕ). put v p E) q₃ h₄)) put-made
