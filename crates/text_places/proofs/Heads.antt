-- The six lines of numbers at a place, by what is told of them.
-- Assumes nothing.
use mathlib.Core.Path.{◌≡◌, refl, sym, ap, fun_ext, ◌∙◌}
use mathlib.Core.Bool.{Bool, true, false}
use mathlib.Core.Logic.{⊎_elim}
use mathlib.Core.Option.{Option, none}
use mathlib.Core.List.{List, [], ◌∷◌}
use Prim.Native.Nat.{ℕ, ◌*◌, ◌<◌}
use native.Mathlib.Omega.{arith}
use lib.Dec.{ltb, leb}
use lib.ListN.{length, drop}
use borrow.Author.Tests.{leb-true, ltb-true}
use Rattle.lists.specs.Tests.{pick}
use Rattle.lists.proofs.Tests.{alls-hold}
use Rattle.number_lines.specs.Lines.{line}
use Rattle.number_lines.specs.Steps.{capped}
use Rattle.number_lines.proofs.Capped.{capped-like, capped-low}
use Rattle.sizes.specs.declared.Sizes.{Sizes}
use Rattle.sizes.specs.Sizing.{legal, B}
use Rattle.sizes.proofs.Legal.{legal-facts, B-most}
use Rattle.text_spec.specs.Texts.{Found, admitted, six_lines, points_at}
use Rattle.text_in.specs.declared.Told.{Told}
use Rattle.text_in.specs.Steps.{most, name_of, number_at}
use Rattle.text_places.proofs.Places.{number_by, number-told, number-lost}

-- ---- numbers that are held

abbrev pub held : ℕ → ℕ
held v = capped most v

abbrev pub held_sizes : Sizes → Sizes
held_sizes z = record { n = held z.n; k = held z.k; d = held z.d; r = held z.r }

-- a number that is held below the bound is the number
same_number : (v : ℕ) → held v < most → held v ≡ v
same_number v h = ⊎_elim (λ e. e) (λ e. absurd (omega (arith, h, e.1))) (capped-like most v)

-- what is admitted is far below the bound
record Small (z : Sizes) (board L : ℕ) : Type 0 where
  n : z.n < most
  k : z.k < most
  d : z.d < most
  r : z.r < most
  node : board < most
  length : L < most

small : (z : Sizes) (node L : ℕ) → admitted z node L ≡ true → Small z node L
unfolding admitted
small z node L h =
    let e = alls-hold (legal z ∷ leb L (4096 * B z) ∷ ltb node z.n ∷ []) h in
    let f = legal-facts z e.0 in
    let b = B-most z f in
    let l = leb-true L (4096 * B z) e.1.0 in
    let m = ltb-true node z.n e.1.1.0 in
    record {
      n = omega (arith, f.few);
      k = omega (arith, f.few, f.enough, f.read-helpers);
      d = omega (arith, f.few, f.enough);
      r = omega (arith, f.few, f.enough);
      node = omega (arith, f.few, m);
      length = omega (arith, l, b);
    }

sizes-same : (z : Sizes) → held z.n ≡ z.n → held z.k ≡ z.k → held z.d ≡ z.d → held z.r ≡ z.r → held_sizes z ≡ z
sizes-same z a b c d =
    ap (λ (n : ℕ). record { n = n; k = held z.k; d = held z.d; r = held z.r }) a
    ∙ ap (λ (k : ℕ). record { n = z.n; k = k; d = held z.d; r = held z.r }) b
    ∙ ap (λ (d : ℕ). record { n = z.n; k = z.k; d = d; r = held z.r }) c
    ∙ ap (λ (r : ℕ). record { n = z.n; k = z.k; d = z.d; r = r }) d

-- numbers that are held change nothing
held_same : (z : Sizes) (node L : ℕ) (rest : List ℕ) → points_at (held_sizes z) (held node) (held L) rest ≡ points_at z node L rest
held_same z node L rest = by (admitted (held_sizes z) (held node) (held L)) refl (admitted z node L) refl
  where
    -- what is admitted as it is held is the same numbers
    through : Small (held_sizes z) (held node) (held L) → points_at (held_sizes z) (held node) (held L) rest ≡ points_at z node L rest
    through s =
        ap (λ (z : Sizes). points_at z (held node) (held L) rest)
        (sizes-same z (same_number _ s.n) (same_number _ s.k) (same_number _ s.d) (same_number _ s.r))
        ∙ ap (λ (m : ℕ). points_at z m (held L) rest) (same_number _ s.node)
        ∙ ap (λ (m : ℕ). points_at z node m rest) (same_number _ s.length)

    low : (v : ℕ) → v < most → held v < most
    low v h = omega (arith, capped-low most v h)

    by : (t : Bool) → admitted (held_sizes z) (held node) (held L) ≡ t → (u : Bool) → admitted z node L ≡ u
        → points_at (held_sizes z) (held node) (held L) rest ≡ points_at z node L rest
    by true e u f = through (small (held_sizes z) (held node) (held L) e)
    by false e true f =
        let s = small z node L f in
        through (record { n = low _ s.n; k = low _ s.k; d = low _ s.d; r = low _ s.r; node = low _ s.node; length = low _ s.length })
    by false e false f = rw (e, f)

-- ---- the lines one after another

-- a line behind one that is told of
next-line : (text : List ℕ) (t : Told) → (t.ok ≡ false → t.next ≡ length text) → (which : ℕ) (K : ℕ → List ℕ → Option Found)
    → pick t.ok (line none (name_of which) (drop t.next text) (λ v rest. K (held v) rest)) none
    ≡ pick (number_at text t.next which).ok (K (number_at text t.next which).value (drop (number_at text t.next which).next text)) none
next-line text t lost which K = by t.ok refl
  where
    by : (b : Bool) → t.ok ≡ b → pick b (line none (name_of which) (drop t.next text) (λ v rest. K (held v) rest)) none
        ≡ pick (number_at text t.next which).ok (K (number_at text t.next which).value (drop (number_at text t.next which).next text)) none
    by true e = number_by text t.next which K
    by false e =
        let q : (number_at text t.next which).ok ≡ false = ap (λ (m : ℕ). (number_at text m which).ok) (lost e) ∙ number-lost text which in
        sym (ap (λ (b : Bool). pick b (K (number_at text t.next which).value (drop (number_at text t.next which).next text)) none) q)

module _ (text : List ℕ) (at : ℕ) where
  abbrev pub n_at : Told
  n_at = number_at text at 0

  abbrev pub k_at : Told
  k_at = number_at text n_at.next 1

  abbrev pub d_at : Told
  d_at = number_at text k_at.next 2

  abbrev pub r_at : Told
  r_at = number_at text d_at.next 3

  abbrev pub node_at : Told
  node_at = number_at text r_at.next 4

  abbrev pub length_at : Told
  length_at = number_at text node_at.next 5

  abbrev z : ℕ → ℕ → ℕ → ℕ → Sizes
  z n k d r = record { n = n; k = k; d = d; r = r }

  -- what is behind each line, with the numbers so far as they are held
  behind5 : ℕ → ℕ → ℕ → ℕ → ℕ → List ℕ → Option Found
  behind5 n k d r node input = line none (name_of 5) input (λ L rest. points_at (z n k d r) node (held L) rest)

  behind4 : ℕ → ℕ → ℕ → ℕ → List ℕ → Option Found
  behind4 n k d r input = line none (name_of 4) input (λ node rest. behind5 n k d r (held node) rest)

  behind3 : ℕ → ℕ → ℕ → List ℕ → Option Found
  behind3 n k d input = line none (name_of 3) input (λ r rest. behind4 n k d (held r) rest)

  behind2 : ℕ → ℕ → List ℕ → Option Found
  behind2 n k input = line none (name_of 2) input (λ d rest. behind3 n k (held d) rest)

  behind1 : ℕ → List ℕ → Option Found
  behind1 n input = line none (name_of 1) input (λ k rest. behind2 n (held k) rest)

  lost-of : (m which : ℕ) → (number_at text m which).ok ≡ false → (number_at text m which).next ≡ length text
  lost-of m which = (number-told text m which).lost-at

  pub six-by : six_lines none (drop at text) points_at
      ≡ pick length_at.ok (points_at (z n_at.value k_at.value d_at.value r_at.value) node_at.value length_at.value (drop length_at.next text)) none
  unfolding behind1 behind2 behind3 behind4 behind5
  six-by =
      ap (λ (P : Sizes → ℕ → ℕ → List ℕ → Option Found). six_lines none (drop at text) P)
      (sym (fun_ext (λ z. fun_ext (λ node. fun_ext (λ L. fun_ext (λ rest. held_same z node L rest))))))
      ∙ number_by text at 0 behind1
      ∙ next-line text n_at (lost-of at 0) 1 (behind2 n_at.value)
      ∙ next-line text k_at (lost-of n_at.next 1) 2 (behind3 n_at.value k_at.value)
      ∙ next-line text d_at (lost-of k_at.next 2) 3 (behind4 n_at.value k_at.value d_at.value)
      ∙ next-line text r_at (lost-of d_at.next 3) 4 (behind5 n_at.value k_at.value d_at.value r_at.value)
      ∙ next-line text node_at (lost-of r_at.next 4) 5 (λ L rest. points_at (z n_at.value k_at.value d_at.value r_at.value) node_at.value L rest)
