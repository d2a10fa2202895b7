-- How far a text goes along with those that a test accepts.
-- Assumes nothing.
use mathlib.Core.Path.{◌≡◌, refl, sym, ap, ◌∙◌}
use mathlib.Core.Bool.{Bool, true, false}
use mathlib.Core.List.{List, [], ◌∷◌}
use Prim.Native.Nat.{ℕ, suc, ◌≤◌}
use native.Mathlib.Omega.{arith}
use lib.Dec.{eqb}
use borrow.Author.Tests.{eqb-true, eq-eqb}
use Rattle.lists.proofs.Tests.{true-false}

-- how many bytes two texts have in common
abbrev pub common : List ℕ → List ℕ → ℕ
common [] w = 0
common (a ∷ l) [] = 0
common (a ∷ l) (b ∷ w) = Rattle.prefix_spec.specs.Prefix.on (eqb a b) (common l w)

-- the input has c bytes in common with some accepted text, and with none more
pub record Best (accepts : List ℕ → Bool) (input : List ℕ) (c : ℕ) : Type 0 where
  pub text : List ℕ
  pub is-accepted : accepts text ≡ true
  pub as-far : common input text ≡ c
  pub no-further : (w : List ℕ) → accepts w ≡ true → common input w ≤ c

-- some text is accepted
abbrev pub Some : (List ℕ → Bool) → Type 0
Some accepts = (w : List ℕ) × (accepts w ≡ true)

-- none is
abbrev pub None : (List ℕ → Bool) → Type 0
None accepts = (w : List ℕ) → accepts w ≡ false

pub best-some : (accepts : List ℕ → Bool) (input : List ℕ) (c : ℕ) → Best accepts input c → Some accepts
best-some accepts input c b = (b.text, b.is-accepted)

pub best-end : (accepts : List ℕ → Bool) → Some accepts → Best accepts [] 0
best-end accepts s = record { text = s.0; is-accepted = s.1; as-far = refl; no-further = λ w h. omega arith }

module _ (accepts : List ℕ → Bool) (b : ℕ) (input : List ℕ) where
  -- what goes on with this byte
  abbrev after : List ℕ → Bool
  after w = accepts (b ∷ w)

  common-same : (w : List ℕ) → common (b ∷ input) (b ∷ w) ≡ suc (common input w)
  common-same w = rw (eq-eqb b b refl)

  bound : (c : ℕ) → ((w : List ℕ) → after w ≡ true → common input w ≤ c) → (w : List ℕ) → accepts w ≡ true → common (b ∷ input) w ≤ suc c
  bound c f [] h = omega arith
  bound c f (a ∷ w) h = go (eqb b a) refl
    where
      go : (t : Bool) → eqb b a ≡ t → common (b ∷ input) (a ∷ w) ≤ suc c
      go true e =
          let q = eqb-true b a e in
          let k = f w (ap (λ (x : ℕ). accepts (x ∷ w)) q ∙ h) in
          rw e (omega (arith, k))
      go false e = rw e (omega arith)

  pub best-byte : (c : ℕ) → Best after input c → Best accepts (b ∷ input) (suc c)
  best-byte c r = record {
    text = b ∷ r.text;
    is-accepted = r.is-accepted;
    as-far = common-same r.text ∙ ap suc r.as-far;
    no-further = bound c r.no-further;
  }

  apart : None after → (w : List ℕ) → accepts w ≡ true → common (b ∷ input) w ≡ 0
  apart n [] h = refl
  apart n (a ∷ w) h = go (eqb b a) refl
    where
      go : (t : Bool) → eqb b a ≡ t → common (b ∷ input) (a ∷ w) ≡ 0
      go true e = absurd (true-false h (sym (ap (λ (x : ℕ). accepts (x ∷ w)) (eqb-true b a e)) ∙ n w))
      go false e = rw e

  pub best-stop : Some accepts → None after → Best accepts (b ∷ input) 0
  best-stop s n = record {
    text = s.0;
    is-accepted = s.1;
    as-far = apart n s.0 s.1;
    no-further = λ w h. omega (arith, apart n w h);
  }

-- tests that agree
pub best-same : (p q : List ℕ → Bool) (input : List ℕ) (c : ℕ) → ((w : List ℕ) → p w ≡ q w) → Best p input c → Best q input c
best-same p q input c e b = record {
  text = b.text;
  is-accepted = sym (e b.text) ∙ b.is-accepted;
  as-far = b.as-far;
  no-further = λ w h. b.no-further w (e w ∙ h);
}
