-- The laws of specs/Laws.antt: a number below 10 to the k has at most k digits, and so each line that is taken is short.
-- Assumes nothing.
use mathlib.Core.Path.{◌≡◌, refl, sym, ap, ◌∙◌}
use mathlib.Core.Bool.{Bool, true, false}
use mathlib.Core.Logic.{inl, inr, ⊎_elim}
use mathlib.Core.Option.{Option, some, none}
use mathlib.Core.List.{List, [], ◌∷◌, ◌++◌}
use Prim.Native.Nat.{ℕ, zero, suc, ◌+◌, ◌*◌, ◌-◌, ◌≤◌, ◌<◌}
use native.Mathlib.Nat.{mul-le-mul_right, mul_assoc, mul_comm, one-mul}
use native.Mathlib.Decide.{dec_lt}
use native.Mathlib.Omega.{arith}
use lib.ListN.{length, length-append}
use Rattle.lists.specs.Tests.{pick, alls, given}
use Rattle.lists.proofs.Tests.{true-false, alls-hold}
use Rattle.number_lines.specs.Lines.{line}
use Rattle.number_lines.specs.Laws.{Number, spelled, Starts}
use Rattle.number_lines.proofs.Laws.{line-laws}
use Rattle.sizes.proofs.Legal.{legal-facts}
use Rattle.mbcr.specs.Share.{standard}
use Rattle.store_spec.proofs.Records.{sound-facts}
use Rattle.beside_spec.specs.Running.{idle}
use Rattle.beside_spec.proofs.Beside.{set-up-both}
use lib.Dec.{eqb}
use borrow.Author.Tests.{eqb-true}
use Rattle.trial_spec.specs.Trial.{Load, new_store, taken, loaded}
use Rattle.trial_spec.proofs.Laws.{trial-laws}
use Rattle.trial_input.specs.Laws.{InputLaws}
use Rattle.trial_limits.proofs.SetUp.{ends}

-- ---- digits

-- 10 to the power k
abbrev ten_to : ℕ → ℕ
ten_to zero = 1
ten_to (suc k) = 10 * ten_to k

ten-some : (k : ℕ) → 1 ≤ ten_to k
ten-some zero = omega arith
ten-some (suc k) = omega (arith, ten-some k)

ten-more : (k m : ℕ) → ten_to k ≤ ten_to (m + k)
ten-more k zero = let e : 0 + k ≡ k = omega arith in rw e (omega arith)
ten-more k (suc m) = let e : suc m + k ≡ suc (m + k) = omega arith in rw e (omega (arith, ten-more k m))

ten-le : (k m : ℕ) → k ≤ m → ten_to k ≤ ten_to m
ten-le k m h = let e : m - k + k ≡ m = omega arith in rw e at (ten-more k (m - k))

-- each digit more makes a number ten times as great, or more
grown : (l : List ℕ) (v : ℕ) → v * ten_to (length l) ≤ spelled l v
grown [] v = omega arith
grown (c ∷ l) v =
    let p = ten_to (length l) in
    let e : v * (10 * p) ≡ 10 * v * p = sym (mul_assoc v 10 p) ∙ ap (λ (x : ℕ). x * p) (mul_comm v 10) in
    let m : 10 * v * p ≤ (10 * v + (c - 0x30)) * p = mul-le-mul_right p (omega arith) in
    omega (arith, e, m, grown l (10 * v + (c - 0x30)))

few-digits : (l : List ℕ) (k : ℕ) → 1 ≤ k → Number l → spelled l 0 < ten_to k → length l ≤ k
few-digits l k s (inl e) h = omega (arith, ap length e)
few-digits [] k s (inr n) h = omega arith
few-digits (c ∷ l) k s (inr n) h = by (dec_lt (length l) k)
  where
    by : Dec (length l < k) → suc (length l) ≤ k
    by (yes t) = omega arith
    by (no t) =
        let m : 1 * ten_to (length l) ≤ (10 * 0 + (c - 0x30)) * ten_to (length l) = mul-le-mul_right (ten_to (length l)) (omega (arith, n.1)) in
        let a = ten-le k (length l) (omega arith) in
        absurd (omega (arith, m, a, one-mul (ten_to (length l)), grown l (10 * 0 + (c - 0x30)), h))

-- ---- one line

none-some : {X : Type 0} {x : X} → ◌≡◌ {A = Option X} none (some x) → ⊥
none-some e = true-false {b = true} refl (sym (ap given e))

-- Q tells of the numbers before this line; k is the most digits of its own
module _ {X : Type 0} (x : X) (Q : Type 0) where
  line-short : (name input : List ℕ) (go : ℕ → List ℕ → Option X) (k b : ℕ) → 1 ≤ k
      → ((v : ℕ) (rest : List ℕ) → go v rest ≡ some x → (Q × (v < ten_to k)) × (length rest ≤ b))
      → line none name input go ≡ some x → Q × (length input ≤ length name + (k + 1) + b)
  line-short name input go k b s f e = ⊎_elim there (λ g. absurd (none-some (sym (g go) ∙ e))) (line-laws.else-malformed none name input)
    where
      there : Starts name input → Q × (length input ≤ length name + (k + 1) + b)
      there t =
          let d = t.figures in
          let g = f (spelled d 0) t.behind
          (sym (line-laws.taken none name d t.is_number t.behind go) ∙ ap (λ (l : List ℕ). line none name l go) (sym t.whole) ∙ e) in
          let n = few-digits d k s t.is_number g.0.1 in
          let p = ap length t.whole ∙ length-append name (d ++ (0x0A ∷ t.behind)) in
          (g.0.0, omega (arith, n, p, length-append d (0x0A ∷ t.behind), g.1))

-- ---- the eight lines

-- the numbers of a load that is taken
record Few (l : Load) : Type 0 where
  n : l.sizes.n < 100
  k : l.sizes.k < 100
  d : l.sizes.d < 100
  r : l.sizes.r < 100
  capacity : l.capacity < 10000
  seed : l.seed < 10000000000
  len : l.length < 100000
  calls : l.calls < 10000000000

few : (l : Load) → taken l ≡ true → Few l
few l h =
    let t = (trial-laws.taken_is l).0 h in
    let z = l.sizes in
    let s = sound-facts _ (set-up-both (new_store l) idle z (standard z) l.capacity (t.2 (new_store l) idle)) in
    let f = legal-facts z s.is-legal in
    record {
      n = omega (arith, f.few);
      k = omega (arith, f.few, f.enough, f.read-helpers);
      d = omega (arith, f.few, f.enough);
      r = omega (arith, f.few, f.enough);
      capacity = omega (arith, s.cap-high);
      seed = omega (arith, t.0);
      len = omega (arith, t.4);
      calls = omega (arith, t.1);
    }

-- what is behind the lines is nothing, and the load is taken
ended : (l : Load) (behind : List ℕ) (x : Load) → ends l behind ≡ some x → Few l × (length behind ≤ 0)
ended l behind x e = by (alls (taken l ∷ eqb (length behind) 0 ∷ [])) refl e
  where
    by : (t : Bool) → alls (taken l ∷ eqb (length behind) 0 ∷ []) ≡ t → pick t (some l) none ≡ some x → Few l × (length behind ≤ 0)
    by true h e =
        let q = alls-hold (taken l ∷ eqb (length behind) 0 ∷ []) h in
        let z = eqb-true (length behind) 0 q.1.0 in
        (few l q.0, omega arith)
    by false h e = absurd (none-some e)

short : (input : List ℕ) (l : Load) → loaded input ≡ some l → length input ≤ 73
unfolding loaded
short input x e =
    (line-short x Unit (0x6E ∷ 0x3D ∷ []) input _ 2 68 (omega arith) (λ n input e.
    line-short x (Unit × (n < 100)) (0x6B ∷ 0x3D ∷ []) input _ 2 63 (omega arith) (λ k input e.
    line-short x ((Unit × (n < 100)) × (k < 100)) (0x64 ∷ 0x3D ∷ []) input _ 2 58 (omega arith) (λ d input e.
    line-short x (((Unit × (n < 100)) × (k < 100)) × (d < 100)) (0x72 ∷ 0x3D ∷ []) input _ 2 53 (omega arith) (λ r input e.
    line-short x ((((Unit × (n < 100)) × (k < 100)) × (d < 100)) × (r < 100)) (0x43 ∷ 0x3D ∷ []) input _ 4 46 (omega arith) (λ C input e.
    line-short x (((((Unit × (n < 100)) × (k < 100)) × (d < 100)) × (r < 100)) × (C < 10000)) (0x73 ∷ 0x65 ∷ 0x65 ∷ 0x64 ∷ 0x3D ∷ []) input _ 10 30 (omega arith) (λ seed input e.
    line-short x ((((((Unit × (n < 100)) × (k < 100)) × (d < 100)) × (r < 100)) × (C < 10000)) × (seed < 10000000000))
    (0x6C ∷ 0x65 ∷ 0x6E ∷ 0x67 ∷ 0x74 ∷ 0x68 ∷ 0x3D ∷ []) input _ 5 17 (omega arith) (λ L input e.
    line-short x (((((((Unit × (n < 100)) × (k < 100)) × (d < 100)) × (r < 100)) × (C < 10000)) × (seed < 10000000000)) × (L < 100000))
    (0x63 ∷ 0x61 ∷ 0x6C ∷ 0x6C ∷ 0x73 ∷ 0x3D ∷ []) input _ 10 0 (omega arith) (λ calls behind e.
    let f = ended (record { sizes = record { n = n; k = k; d = d; r = r }; capacity = C; seed = seed; length = L; calls = calls }) behind x e in
    let m = f.0 in
    (((((((((tt, m.n), m.k), m.d), m.r), m.capacity), m.seed), m.len), m.calls), f.1)) e) e) e) e) e) e) e) e).1

-- an input that is longer is refused
long-none : (input : List ℕ) → 74 ≤ length input → loaded input ≡ none
long-none input h = by (loaded input) refl
  where
    by : (o : Option Load) → loaded input ≡ o → o ≡ none
    by none e = refl
    by (some l) e = let s = short input l e in absurd (omega (arith, s, h))

pub input-laws : InputLaws
input-laws = record {
  short = short;
  cut = λ input rest h. (long-none input (omega (arith, h)), long-none (input ++ rest) (omega (arith, h, length-append input rest)));
}
