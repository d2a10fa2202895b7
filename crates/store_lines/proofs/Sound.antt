-- A record with legal sizes is sound, or not, by the tests in their order.
-- Assumes nothing.
use Prim.Native.Nat.{ℕ, ◌*◌, ◌≤◌, ◌<◌}
use mathlib.Core.Path.{◌≡◌, refl, sym, ◌∙◌}
use mathlib.Core.Bool.{Bool, true, false, not}
use mathlib.Core.List.{[], ◌∷◌}
use native.Mathlib.Nat.{mul-le-mul_right}
use native.Mathlib.Omega.{arith}
use lib.ListN.{drop}
use borrow.Author.Tests.{le-leb, lt-leb, eq-eqb, ne_eqb}
use Rattle.sizes.specs.Sizing.{legal, B}
use Rattle.lists.specs.Tests.{pick, alls}
use Rattle.mbcr.specs.Share.{pointed}
use Rattle.store_spec.specs.Record.{Record, all_off, sound}
use Rattle.store_spec.proofs.Records.{unwritten}

-- two tests at the end of a list of them
ends : (b : Bool) → b ≡ pick (pick b true false) true false
ends true = refl
ends false = refl

not_yes : (b : Bool) → not b ≡ true → b ≡ false
not_yes true h = sym h
not_yes false h = refl

-- as many file bytes as there is room for are few enough to count
pub few : (c q b : ℕ) → c ≤ 4096 → q ≡ b → b ≤ 992 → c * q ≤ 4063232
few c q b h e k =
    let p : c * q ≤ 4096 * q = mul-le-mul_right q h in
    omega arith

pub not-legal : (s : Record) → legal s.sizes ≡ false → sound s ≡ false
unfolding sound
not-legal s h = rw h refl

pub not-pointed : (s : Record) → legal s.sizes ≡ true → not (pointed s.sizes s.points) ≡ true → false ≡ sound s
unfolding sound
not-pointed s ok h = rw (ok, not_yes (pointed s.sizes s.points) h) refl

-- what the sizes and the points are, where their tests are passed
pub record Sized (s : Record) : Type 0 where
  pub is-legal : legal s.sizes ≡ true
  pub is-pointed : pointed s.sizes s.points ≡ true

pub no-room : (s : Record) → Sized s → s.capacity < 1 → false ≡ sound s
unfolding sound
no-room s f c = rw (f.is-legal, f.is-pointed, lt-leb 1 s.capacity c) refl

pub much-room : (s : Record) → Sized s → 1 ≤ s.capacity → 4096 < s.capacity → false ≡ sound s
unfolding sound
much-room s f low c = rw (f.is-legal, f.is-pointed, le-leb 1 s.capacity low, lt-leb s.capacity 4096 c) refl

-- and the capacity
pub record Roomy (s : Record) : Type 0 where
  pub sized : Sized s
  pub low : 1 ≤ s.capacity
  pub high : s.capacity ≤ 4096

pub long : (s : Record) → Roomy s → s.capacity * B s.sizes < s.length → false ≡ sound s
unfolding sound
long s f c =
    rw (f.sized.is-legal, f.sized.is-pointed, le-leb 1 s.capacity f.low, le-leb s.capacity 4096 f.high)
    (rw (lt-leb s.length (s.capacity * B s.sizes) c) refl)

-- the tests of the marks and of what is stored, where the file's length fits too
module _ (s : Record) (f : Roomy s) (fits : s.length ≤ s.capacity * B s.sizes) where
  rest : sound s ≡ alls (all_off (drop s.sizes.n s.marks) ∷ unwritten s ∷ [])
  unfolding sound
  rest =
      rw (f.sized.is-legal, f.sized.is-pointed, le-leb 1 s.capacity f.low, le-leb s.capacity 4096 f.high)
      (rw (le-leb s.length (s.capacity * B s.sizes) fits) refl)

  pub past : all_off (drop s.sizes.n s.marks) ≡ false → false ≡ sound s
  past e = sym (rest ∙ (rw e refl))

  module _ (none : all_off (drop s.sizes.n s.marks) ≡ true) where
    pub accepted : s.written ≡ true → true ≡ sound s
    accepted w = sym (rest ∙ (rw (none, w) refl))

    pub some-length : s.written ≡ false → 0 < s.length → false ≡ sound s
    some-length w l = sym (rest ∙ (rw (none, w, ne_eqb s.length 0 (λ e. omega (arith, e))) refl))

    pub by-marks : s.written ≡ false → s.length ≤ 0 → all_off s.marks ≡ sound s
    by-marks w l = sym (rest ∙ (rw (none, w, eq-eqb s.length 0 (omega arith)) (sym (ends (all_off s.marks)))))
