-- The boards that a fresh board hears: its helpers, its partners and itself differ.
-- Assumes nothing.
use Prim.Native.Nat.{ℕ, ◌*◌, ◌-◌, ◌<◌}
use mathlib.Core.Path.{◌≡◌, sym, ap, subst, ◌∙◌}
use mathlib.Core.Bool.{true, not}
use mathlib.Core.List.{List, [], ◌∷◌, ◌++◌, append_assoc}
use native.Mathlib.Omega.{arith}
use lib.ListN.{length, get_or, take, drop, take-append-drop}
use Rattle.lists.specs.Tests.{among, below, different, apart}
use Rattle.lists.specs.Lists.{All, piece}
use Rattle.lists.proofs.Alls.{take-alls, drop-alls}
use Rattle.lists.proofs.Boards.{below_all, get_d-among}
use Rattle.lists.proofs.Tests.{every-all, all-every}
use Rattle.sizes.specs.declared.Sizes.{Sizes}
use Rattle.mbcr.proofs.Points.{Boards}
use Rattle.store_spec.proofs.Named.{named-boards}
use Rattle.repair_rows.specs.Steps.{others_at, helpers_at, partners_at}
use Rattle.repair_rows.proofs.Without.{without-place}
use Rattle.repair_stripe.specs.Steps.{DifferentRuns}

pub all-piece : (P : ℕ → Type 0) (d a : ℕ) (l : List ℕ) → All P l → All P (piece d a l)
unfolding piece
all-piece P d a l h = take-alls P d (drop (a * d) l) (drop-alls P (a * d) l h)

pub heard-boards : (z : Sizes) (c : ℕ) (fresh named : List ℕ) → below z.n fresh ≡ true → below z.n named ≡ true
    → different fresh ≡ true → apart fresh named ≡ true → DifferentRuns c fresh named → (a : ℕ) → a < length fresh
    → Boards z (helpers_at z c named a ++ partners_at z c fresh named a ++ (get_or fresh a 0 ∷ []))
heard-boards z c fresh named bf bn once none runs a h =
    let i : ℕ = get_or fresh a 0 in
    let l : List ℕ = piece c a named in
    let apart-run : apart fresh l ≡ true =
    all-every (λ x. not (among fresh x)) l (all-piece (λ x. not (among fresh x) ≡ true) c a named (every-all (λ x. not (among fresh x)) named none)) in
    let e : l ++ others_at fresh a ≡ helpers_at z c named a ++ partners_at z c fresh named a =
    ap (λ (q : List ℕ). q ++ others_at fresh a) (sym (take-append-drop z.d l)) ∙ append_assoc (take z.d l) (drop z.d l) (others_at fresh a) in
    subst (λ (q : List ℕ). Boards z (q ++ (i ∷ [])))
    (ap (λ (q : List ℕ). l ++ q) (without-place fresh a (length fresh - 1) once h (omega arith)) ∙ e)
    (named-boards z fresh (below_all z.n fresh bf) once i (get_d-among fresh a h) l
    (all-piece (λ x. x < z.n) c a named (below_all z.n named bn)) (runs.each a h) apart-run)
