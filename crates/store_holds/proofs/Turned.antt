-- A board's stripes, looked at from one on and around: all of them in the end, and stripes that are left out mend nothing.
-- Assumes nothing.
use mathlib.Core.Path.{◌≡◌, sym, ap, ap₂, ◌∙◌}
use mathlib.Core.Bool.{Bool, false}
use mathlib.Core.List.{List}
use Prim.Native.Nat.{ℕ, ◌+◌, ◌≤◌}
use native.Mathlib.Numerals.{add-one}
use native.Mathlib.Omega.{arith}
use Rattle.lists.specs.Tests.{pick, alls}
use Rattle.lists.specs.Lists.{tabulate}
use Rattle.lists.proofs.Tests.{true-false, is_false}
use Rattle.sizes.specs.declared.Sizes.{Sizes}
use Rattle.decode_laws.proofs.Agree.{alls-true, true-alls}
use Rattle.stripe_holds.specs.Steps.{turned, holds_stripe, holds_stripes}
use Rattle.stripe_holds.proofs.Compared.{alls-more}
use Rattle.stripe_holds.proofs.Turned.{all-turned}

-- what fails in some fails in all
pub fails-on : (n m : ℕ) (q : ℕ → Bool) → n ≤ m → alls (tabulate n q) ≡ false → alls (tabulate m q) ≡ false
fails-on n m q h e = is_false (alls (tabulate m q)) (λ a. true-false (true-alls n q (λ i l. alls-true m q a i (omega arith))) e)

-- ---- a board's stripes, looked at in this order

module _ (z : Sizes) (xs boards starts area : List ℕ) (place i from S : ℕ) where
  -- whether it holds the first t that are looked at
  abbrev pub up_to : ℕ → Bool
  up_to t = alls (tabulate t (λ n. holds_stripe z xs boards starts area place i (turned from S n)))

  -- one more
  pub turn : (t s : ℕ) (before r : Bool) → before ≡ up_to t → s ≡ turned from S t → r ≡ pick before (holds_stripe z xs boards starts area place i s) false → r ≡ up_to (t + 1)
  turn t s before r eb es er =
      er ∙ ap₂ {C = Bool} (λ (b : Bool) (n : ℕ). pick b (holds_stripe z xs boards starts area place i n) false) eb es
      ∙ sym (alls-more t (λ n. holds_stripe z xs boards starts area place i (turned from S n))) ∙ ap up_to (sym (add-one t))

  -- all of them
  pub all-looked : (t : ℕ) (r : Bool) → t ≡ S → r ≡ up_to t → r ≡ holds_stripes z xs boards starts area S place i
  all-looked t r e h = h ∙ ap up_to e ∙ all-turned from S (holds_stripe z xs boards starts area place i)

  -- one that failed does not hold them all
  pub failed-there : (t : ℕ) (r : Bool) → t ≤ S → r ≡ up_to t → r ≡ false → r ≡ holds_stripes z xs boards starts area S place i
  failed-there t r l h e =
      e ∙ sym (fails-on t S (λ n. holds_stripe z xs boards starts area place i (turned from S n)) l (sym h ∙ e))
      ∙ all-turned from S (holds_stripe z xs boards starts area place i)
