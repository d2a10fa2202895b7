-- What was read stands there: lines and pairs that give something begin the input in their form.
-- Assumes nothing.
use mathlib.Core.Path.{◌≡◌, refl, sym, ap, ap₂, ◌∙◌}
use mathlib.Core.Bool.{Bool, true, false}
use mathlib.Core.Logic.{⊎_elim}
use mathlib.Core.Option.{Option, some, none}
use mathlib.Core.List.{List, [], ◌∷◌, ◌++◌, append_assoc}
use Prim.Native.Nat.{ℕ, zero, suc, ◌+◌, ◌*◌, ◌-◌, ◌/◌, ◌%◌, ◌<◌}
use native.Mathlib.Nat.{div-add-mod', mod-lt}
use native.Mathlib.Omega.{arith}
use lib.Dec.{ltb, eqb}
use lib.ListN.{length}
use borrow.Author.Tests.{ltb-true, ltb-false, lt-ltb, le-ltb, eqb-true}
use Rattle.lists.specs.Tests.{pick}
use Rattle.lists.specs.Lists.{Bytes, joined}
use Rattle.number_lines.specs.Lines.{line}
use Rattle.number_lines.specs.Laws.{Starts, spelled}
use Rattle.number_lines.proofs.Laws.{line-laws}
use Rattle.point_lines.specs.Lines.{hexadecimal, digit_value, read_digit, read_name, read_pairs}
use Rattle.board_spec.specs.Text.{decimal, hex_digit, hex_pair}
use Rattle.text_spec.proofs.Decimals.{decimal-spelled}

module _ {X : Type 0} where
  pub none-some : {P : Type 0} {x : X} → ◌≡◌ {A = Option X} none (some x) → P
  none-some e = let z : ◌≡◌ {A = ℕ} 0 1 = cc in absurd (omega arith)

  -- a choice that gives something passed its test
  pub picked : (t : Bool) (o : Option X) {x : X} → pick t o none ≡ some x → (t ≡ true) × (o ≡ some x)
  picked true o e = (refl, e)
  picked false o e = none-some e

  pub line-back : (name input : List ℕ) (go : ℕ → List ℕ → Option X) {x : X} → line none name input go ≡ some x
      → (v : ℕ) × (rest : List ℕ) × (input ≡ name ++ (decimal v ++ (0x0A ∷ rest))) × (go v rest ≡ some x)
  line-back name input go {x} e = ⊎_elim taken (λ f. none-some (sym (f go) ∙ e)) (line-laws.else-malformed none name input)
    where
      taken : Starts name input → (v : ℕ) × (rest : List ℕ) × (input ≡ name ++ (decimal v ++ (0x0A ∷ rest))) × (go v rest ≡ some x)
      taken s = (
        spelled s.figures 0,
        s.behind,
        s.whole ∙ ap (λ (l : List ℕ). name ++ (l ++ (0x0A ∷ s.behind))) (sym (decimal-spelled s.figures s.is_number)),
        sym (line-laws.taken none name s.figures s.is_number s.behind go) ∙ ap (λ (l : List ℕ). line none name l go) (sym s.whole) ∙ e,
      )

  pub name_back : (name input : List ℕ) (go : List ℕ → Option X) {x : X} → read_name none name input go ≡ some x
      → (rest : List ℕ) × (input ≡ name ++ rest) × (go rest ≡ some x)
  name_back [] input go e = (input, refl, e)
  name_back (c ∷ name) [] go e = none-some e
  name_back (c ∷ name) (b ∷ input) go {x} e =
      let p = picked (eqb b c) (read_name none name input go) e in
      let r = name_back name input go p.1 in
      (r.0, ap₂ {C = List ℕ} (λ (y : ℕ) l. y ∷ l) (eqb-true b c p.0) r.1, r.2)

-- ---- digits

-- a digit spells what is written for its value
pub digit-back : (b : ℕ) → hexadecimal b ≡ true → (digit_value b < 16) × (b ≡ hex_digit (digit_value b))
digit-back b h = go (ltb b 0x30) refl (ltb b 0x3A) refl (ltb b 0x61) refl (ltb b 0x67) refl h
  where
    go : (s : Bool) → ltb b 0x30 ≡ s → (t : Bool) → ltb b 0x3A ≡ t → (u : Bool) → ltb b 0x61 ≡ u → (v : Bool) → ltb b 0x67 ≡ v
        → pick s false (pick t true (pick u false v)) ≡ true → (digit_value b < 16) × (b ≡ hex_digit (digit_value b))
    go true e t f u g v k q = let z : ◌≡◌ {A = ℕ} 0 1 = cc in absurd (omega arith)
    go false e true f u g v k q =
        let low = ltb-false b 0x30 e in
        let high = ltb-true b 0x3A f in
        rw f (omega arith, rw (lt-ltb (b - 0x30) 10 (omega arith)) (omega arith))
    go false e false f true g v k q = let z : ◌≡◌ {A = ℕ} 0 1 = cc in absurd (omega arith)
    go false e false f false g false k q = let z : ◌≡◌ {A = ℕ} 0 1 = cc in absurd (omega arith)
    go false e false f false g true k q =
        let low = ltb-false b 0x61 g in
        let high = ltb-true b 0x67 k in
        rw f (omega arith, rw (le-ltb (b - 0x57) 10 (omega arith)) (omega arith))

pub pair-spelled : (h l : ℕ) → h < 16 → l < 16 → hex_pair (16 * h + l) ≡ hex_digit h ∷ hex_digit l ∷ []
pair-spelled h l p q =
    let e = div-add-mod' (16 * h + l) 16 in
    let r : (16 * h + l) % 16 < 16 = mod-lt (16 * h + l) (omega arith) in
    let dv : (16 * h + l) / 16 ≡ h = omega (arith, e, r, p, q) in
    let md : (16 * h + l) % 16 ≡ l = omega (arith, e, r, p, q) in
    ap₂ {C = List ℕ} (λ (a b : ℕ). hex_digit a ∷ hex_digit b ∷ []) dv md

module _ {X : Type 0} where
  one-back : (input : List ℕ) (go : ℕ → List ℕ → Option X) {x : X} → read_digit none input go ≡ some x
      → (v : ℕ) × (rest : List ℕ) × (v < 16) × (input ≡ hex_digit v ∷ rest) × (go v rest ≡ some x)
  one-back [] go e = none-some e
  one-back (b ∷ input) go e =
      let p = picked (hexadecimal b) (go (digit_value b) input) e in
      let d = digit-back b p.0 in
      (digit_value b, input, d.0, ap (λ (c : ℕ). c ∷ input) d.1, p.1)

  pub pairs-back : (n : ℕ) (input : List ℕ) (go : List ℕ → List ℕ → Option X) {x : X} → read_pairs none n input go ≡ some x
      → (l : List ℕ) × (rest : List ℕ) × (length l ≡ n) × Bytes l × (input ≡ joined hex_pair l ++ (0x0A ∷ rest)) × (go l rest ≡ some x)
  pairs-back zero input go e =
      let r = name_back (0x0A ∷ []) input (go []) e in
      ([], r.0, refl, tt, r.1, r.2)
  pairs-back (suc n) input go {x} e =
      let h = one-back input _ e in
      let l = one-back h.1 _ h.4 in
      let r = pairs-back n l.1 (λ xs rest. go ((16 * h.0 + l.0) ∷ xs) rest) l.4 in (
        (16 * h.0 + l.0) ∷ r.0,
        r.1,
        ap suc r.2,
        (omega (arith, h.2, l.2), r.3),
        h.3 ∙ ap (λ (m : List ℕ). hex_digit h.0 ∷ m) (l.3 ∙ ap (λ (m : List ℕ). hex_digit l.0 ∷ m) r.4)
            ∙ ap (λ (m : List ℕ). m ++ (joined hex_pair r.0 ++ (0x0A ∷ r.1))) (sym (pair-spelled h.0 l.0 h.2 l.2))
            ∙ sym (append_assoc (hex_pair (16 * h.0 + l.0)) (joined hex_pair r.0) (0x0A ∷ r.1)),
        r.5,
      )
