-- Numbers of 1,000 or more may be held as 1,000: no sizes that have one are legal, and no board has one.
-- Assumes nothing.
use mathlib.Core.Path.{◌≡◌, refl, sym, ap, ◌∙◌}
use mathlib.Core.Bool.{Bool, true, false}
use mathlib.Core.Logic.{◌⊎◌, inl, inr}
use mathlib.Core.List.{List, [], ◌∷◌}
use Prim.Native.Nat.{ℕ, ◌*◌, ◌≤◌}
use native.Mathlib.Omega.{arith}
use lib.Dec.{ltb}
use lib.ListN.{length}
use borrow.Author.Tests.{le-ltb}
use Rattle.lists.specs.Tests.{pick}
use Rattle.lists.proofs.Tests.{alls-hold}
use Rattle.number_lines.specs.Steps.{capped}
use Rattle.number_lines.proofs.Picks.{no}
use Rattle.number_lines.proofs.Capped.{capped-like}
use Rattle.sizes.specs.declared.Sizes.{Sizes}
use Rattle.sizes.specs.Sizing.{legal, B}
use Rattle.sizes.proofs.Legal.{legal-no, legal-facts}
use Rattle.mbcr.specs.Share.{pointed}
use Rattle.board_spec.specs.Calls.{share_call, share_lines}
use Rattle.printer.specs.Printer.{refused_line, max_file, shared, answered}
use Rattle.printer.specs.Steps.{accepted, max_number}

-- a number as it is held
abbrev pub held : ℕ → ℕ
held v = capped max_number v

abbrev Like : ℕ → Type 0
Like v = (held v ≡ v) ⊎ ((max_number ≤ v) × (held v ≡ max_number))

abbrev pub held_sizes : Sizes → Sizes
held_sizes z = record { n = held z.n; k = held z.k; d = held z.d; r = held z.r }

same-sizes : (n k d r n' k' d' r' : ℕ) → n ≡ n' → k ≡ k' → d ≡ d' → r ≡ r'
    → ◌≡◌ {A = Sizes} (record { n = n; k = k; d = d; r = r }) (record { n = n'; k = k'; d = d'; r = r' })
same-sizes n k d r n' k' d' r' a b c e = cc

sizes-held : (z : Sizes) → (held_sizes z ≡ z) ⊎ ((legal (held_sizes z) ≡ false) × (legal z ≡ false))
sizes-held z = go (capped-like max_number z.n) (capped-like max_number z.k) (capped-like max_number z.d) (capped-like max_number z.r)
  where
    go : Like z.n → Like z.k → Like z.d → Like z.r → (held_sizes z ≡ z) ⊎ ((legal (held_sizes z) ≡ false) × (legal z ≡ false))
    go (inl a) (inl b) (inl c) (inl d) = inl (same-sizes _ _ _ _ _ _ _ _ a b c d)
    go (inr h) b c d = inr (legal-no (held_sizes z) (λ f. omega (arith, h.1)), legal-no z (λ f. omega (arith, h.0)))
    go (inl a) (inr h) c d = inr (legal-no (held_sizes z) (λ f. omega (arith, h.1)), legal-no z (λ f. omega (arith, h.0)))
    go (inl a) (inl b) (inr h) d = inr (legal-no (held_sizes z) (λ f. omega (arith, h.1)), legal-no z (λ f. omega (arith, h.0)))
    go (inl a) (inl b) (inl c) (inr h) = inr (legal-no (held_sizes z) (λ f. omega (arith, h.1)), legal-no z (λ f. omega (arith, h.0)))

-- a board number of n or more
pub shared-far : (z : Sizes) (xs : List ℕ) (v : ℕ) (file : List ℕ) → legal z ≡ true → pointed z xs ≡ true → z.n ≤ v
    → shared z xs v file ≡ pick (ltb (4096 * B z) (length file)) (refused_line 3) (refused_line 5)
unfolding shared share_call share_lines
shared-far z xs v file l o h = go (ltb (4096 * B z) (length file)) refl
  where
    go : (t : Bool) → ltb (4096 * B z) (length file) ≡ t → shared z xs v file ≡ pick (ltb (4096 * B z) (length file)) (refused_line 3) (refused_line 5)
    go true e = rw (l, o, e)
    go false e = rw (l, o, e, le-ltb v z.n h)

pub refused-sizes : (z : Sizes) (xs : List ℕ) (node : ℕ) (file : List ℕ) → accepted z xs ≡ false → answered z xs node file ≡ refused_line 1
refused-sizes z xs node file e = no (accepted z xs) _ _ e

-- what the first test says
pub both : (z : Sizes) (xs : List ℕ) → accepted z xs ≡ true → (legal z ≡ true) × (pointed z xs ≡ true)
both z xs e = let h = alls-hold (legal z ∷ pointed z xs ∷ []) e in (h.0, h.1.0)

pub not-legal : (z : Sizes) (xs : List ℕ) → legal z ≡ false → accepted z xs ≡ false
not-legal z xs e = rw e

pub not-pointed : (z : Sizes) (xs : List ℕ) → legal z ≡ true → pointed z xs ≡ false → accepted z xs ≡ false
not-pointed z xs l e = rw (l, e)

node-held : (z : Sizes) (xs : List ℕ) (node : ℕ) (file : List ℕ) → answered z xs (held node) file ≡ answered z xs node file
node-held z xs node file = go (accepted z xs) refl (capped-like max_number node)
  where
    go : (t : Bool) → accepted z xs ≡ t → Like node → answered z xs (held node) file ≡ answered z xs node file
    go t e (inl h) = ap (λ (v : ℕ). answered z xs v file) h
    go true e (inr h) =
        let b = both z xs e in
        let f = legal-facts z b.0 in
        ap (λ (l : List ℕ). pick (accepted z xs) (pick (ltb max_file (length file)) (refused_line 3) l) (refused_line 1))
        (shared-far z xs (held node) file b.0 b.1 (omega (arith, h.1, f.few)) ∙ sym (shared-far z xs node file b.0 b.1 (omega (arith, h.0, f.few))))
    go false e (inr h) = refused-sizes z xs (held node) file e ∙ sym (refused-sizes z xs node file e)

-- with points that may depend on the sizes
pub answered-held : (z : Sizes) (xs : Sizes → List ℕ) (node : ℕ) (file : List ℕ) → answered (held_sizes z) (xs (held_sizes z)) (held node) file ≡ answered z (xs z) node file
answered-held z xs node file = go (sizes-held z)
  where
    go : (held_sizes z ≡ z) ⊎ ((legal (held_sizes z) ≡ false) × (legal z ≡ false))
        → answered (held_sizes z) (xs (held_sizes z)) (held node) file ≡ answered z (xs z) node file
    go (inl e) = ap (λ (z : Sizes). answered z (xs z) (held node) file) e ∙ node-held z (xs z) node file
    go (inr e) =
        refused-sizes _ _ (held node) file (not-legal (held_sizes z) (xs (held_sizes z)) e.0) ∙ sym (refused-sizes z (xs z) node file (not-legal z (xs z) e.1))
