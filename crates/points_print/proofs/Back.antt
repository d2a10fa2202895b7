-- The line of points in just its form: an input that does not begin with it is malformed.
-- Assumes nothing.
use mathlib.Core.Path.{◌≡◌, refl, sym, ap, ap₂, ◌∙◌}
use mathlib.Core.Bool.{Bool, true, false}
use mathlib.Core.Logic.{◌⊎◌, inl, inr}
use mathlib.Core.List.{List, [], ◌∷◌, ◌++◌, append_assoc}
use Prim.Native.Nat.{ℕ, zero, suc, ◌+◌, ◌*◌, ◌<◌}
use native.Mathlib.Omega.{arith}
use lib.Dec.{eqb}
use lib.ListN.{length}
use borrow.Author.Tests.{eq-eqb, eqb-true}
use Rattle.lists.specs.Tests.{pick}
use Rattle.lists.specs.Lists.{Bytes, joined}
use Rattle.number_lines.proofs.Picks.{yes, no}
use Rattle.board_spec.specs.Text.{hex_pair}
use Rattle.point_lines.specs.Lines.{hexadecimal, digit_value, read_name, read_pairs, read_points}
use Rattle.text_spec.proofs.Back.{digit-back, pair-spelled}
use Rattle.points_print.specs.Laws.{PointsStart}

-- ---- digits

two_digits : (a b : ℕ) → hexadecimal a ≡ true → hexadecimal b ≡ true → a ∷ b ∷ [] ≡ hex_pair (16 * digit_value a + digit_value b)
two_digits a b e f =
    let p = digit-back a e in
    let q = digit-back b f in
    ap₂ {C = List ℕ} (λ (x y : ℕ). x ∷ y ∷ []) p.1 q.1 ∙ sym (pair-spelled (digit_value a) (digit_value b) p.0 q.0)

-- ---- pairs

-- the input begins with n pairs and byte 0A
record Pairs (n : ℕ) (input : List ℕ) : Type 0 where
  told : List ℕ
  behind : List ℕ
  bytes : Bytes told
  long : length told ≡ n
  whole : input ≡ joined hex_pair told ++ (0x0A ∷ behind)

-- one more pair before them
before : (n a b : ℕ) (input : List ℕ) → hexadecimal a ≡ true → hexadecimal b ≡ true → Pairs n input → Pairs (suc n) (a ∷ b ∷ input)
before n a b input e f p =
    let x = 16 * digit_value a + digit_value b in
    let few : x < 256 = omega (arith, (digit-back a e).0, (digit-back b f).0) in
    record {
      told = x ∷ p.told;
      behind = p.behind;
      bytes = (few, p.bytes);
      long = ap suc p.long;
      whole =
          ap (λ (l : List ℕ). a ∷ b ∷ l) p.whole
          ∙ ap (λ (l : List ℕ). l ++ (joined hex_pair p.told ++ (0x0A ∷ p.behind))) (two_digits a b e f)
          ∙ sym (append_assoc (hex_pair x) (joined hex_pair p.told) (0x0A ∷ p.behind));
    }

module _ {A : Type 0} (bad : A) where
  -- malformed, whatever is to be done with the points
  abbrev Malformed : ((List ℕ → List ℕ → A) → A) → Type 0
  Malformed f = (go : List ℕ → List ℕ → A) → f go ≡ bad

  neither : (t : Bool) → pick t bad bad ≡ bad
  neither true = refl
  neither false = refl

  pairs-form : (n : ℕ) (input : List ℕ) → Pairs n input ⊎ Malformed (read_pairs bad n input)
  pairs-form zero [] = inr (λ go. refl)
  pairs-form zero (b ∷ input) = by (eqb b 0x0A) refl
    where
      by : (t : Bool) → eqb b 0x0A ≡ t → Pairs zero (b ∷ input) ⊎ Malformed (read_pairs bad zero (b ∷ input))
      by true e = inl (record { told = []; behind = input; bytes = tt; long = refl; whole = ap (λ (c : ℕ). c ∷ input) (eqb-true b 0x0A e) })
      by false e = inr (λ go. no (eqb b 0x0A) _ _ e)
  pairs-form (suc n) [] = inr (λ go. refl)
  pairs-form (suc n) (a ∷ []) = inr (λ go. neither (hexadecimal a))
  pairs-form (suc n) (a ∷ b ∷ input) = by (hexadecimal a) refl (hexadecimal b) refl (pairs-form n input)
    where
      by : (t : Bool) → hexadecimal a ≡ t → (u : Bool) → hexadecimal b ≡ u → Pairs n input ⊎ Malformed (read_pairs bad n input)
          → Pairs (suc n) (a ∷ b ∷ input) ⊎ Malformed (read_pairs bad (suc n) (a ∷ b ∷ input))
      by true e true f (inl p) = inl (before n a b input e f p)
      by true e true f (inr m) =
          inr (λ go. yes (hexadecimal a) _ _ e ∙ yes (hexadecimal b) _ _ f ∙ m (λ xs rest. go ((16 * digit_value a + digit_value b) ∷ xs) rest))
      by true e false f r = inr (λ go. yes (hexadecimal a) _ _ e ∙ no (hexadecimal b) _ _ f)
      by false e u f r = inr (λ go. no (hexadecimal a) _ _ e)

  -- ---- the line

  -- these bytes stand there, or not
  name-form : (name input : List ℕ) → ((rest : List ℕ) × (input ≡ name ++ rest)) ⊎ ((go : List ℕ → A) → read_name bad name input go ≡ bad)
  name-form [] input = inl (input, refl)
  name-form (c ∷ name) [] = inr (λ go. refl)
  name-form (c ∷ name) (b ∷ input) = by (eqb b c) refl (name-form name input)
    where
      by : (t : Bool) → eqb b c ≡ t → ((rest : List ℕ) × (input ≡ name ++ rest)) ⊎ ((go : List ℕ → A) → read_name bad name input go ≡ bad)
          → ((rest : List ℕ) × (b ∷ input ≡ (c ∷ name) ++ rest)) ⊎ ((go : List ℕ → A) → read_name bad (c ∷ name) (b ∷ input) go ≡ bad)
      by true e (inl r) = inl (r.0, ap₂ {C = List ℕ} (λ (y : ℕ) l. y ∷ l) (eqb-true b c e) r.1)
      by true e (inr m) = inr (λ go. yes (eqb b c) _ _ e ∙ m go)
      by false e r = inr (λ go. no (eqb b c) _ _ e)

  read-name : (name rest : List ℕ) (go : List ℕ → A) → read_name bad name (name ++ rest) go ≡ go rest
  read-name [] rest go = refl
  read-name (c ∷ name) rest go = yes (eqb c c) _ _ (eq-eqb c c refl) ∙ read-name name rest go

  pub line-form : (n : ℕ) (input : List ℕ) → PointsStart n input ⊎ Malformed (read_points bad n input)
  line-form n input = by (name-form points_name input)
    where
      points_name : List ℕ
      points_name = 0x70 ∷ 0x6F ∷ 0x69 ∷ 0x6E ∷ 0x74 ∷ 0x73 ∷ 0x3D ∷ []

      starts : (rest : List ℕ) → input ≡ points_name ++ rest → Pairs n rest → PointsStart n input
      starts rest e p =
          record {
            told = p.told;
            behind = p.behind;
            bytes = p.bytes;
            long = p.long;
            whole =
                e ∙ ap (λ (l : List ℕ). points_name ++ l) p.whole
                ∙ ap (λ (l : List ℕ). points_name ++ l) (sym (append_assoc (joined hex_pair p.told) (0x0A ∷ []) p.behind));
          }

      after : (rest : List ℕ) → input ≡ points_name ++ rest → Pairs n rest ⊎ Malformed (read_pairs bad n rest) → PointsStart n input ⊎ Malformed (read_points bad n input)
      after rest e (inl p) = inl (starts rest e p)
      after rest e (inr m) =
          inr (λ go. ap (λ (l : List ℕ). read_points bad n l go) e ∙ read-name points_name rest (λ input. read_pairs bad n input go) ∙ m go)

      by : ((rest : List ℕ) × (input ≡ points_name ++ rest)) ⊎ ((go : List ℕ → A) → read_name bad points_name input go ≡ bad)
          → PointsStart n input ⊎ Malformed (read_points bad n input)
      by (inl r) = after r.0 r.1 (pairs-form n r.0)
      by (inr m) = inr (λ go. m (λ input. read_pairs bad n input go))
