-- What lists that a start takes are: plain facts of each board and each run; and where packets lie.
-- Assumes nothing.
use Prim.Native.Nat.{ℕ, ◌+◌, ◌-◌, ◌*◌, ◌/◌, ◌≤◌, ◌<◌}
use mathlib.Core.Path.{◌≡◌, refl, ◌∙◌, ap, ap₂, subst}
use mathlib.Core.Bool.{Bool, true, false, not}
use mathlib.Core.List.{List, [], ◌∷◌, ◌++◌, append_assoc}
use native.Mathlib.Omega.{arith}
use native.Mathlib.Nat.{min-eq_left, min-eq_right, mul-le-mul_right, mul-le-mul}
use lib.ListN.{length, drop, get_or}
use Rattle.lists.specs.Tests.{pick, among, below, different, apart}
use Rattle.lists.specs.Lists.{All, piece}
use Rattle.lists.proofs.Alls.{all-at, all_left, all_right, append-all, take-alls, drop-alls}
use Rattle.lists.proofs.Boards.{below_all, all-below, get_d-among, different-cons, among-append-left, distinct-different}
use Rattle.lists.proofs.Pieces.{length-piece}
use Rattle.lists.proofs.Put.{part_end}
use Rattle.lists.proofs.Tests.{true-false, every-all, all-every}
use Rattle.sizes.specs.declared.Sizes.{Sizes}
use Rattle.sizes.proofs.Legal.{Legal}
use Rattle.mbcr.proofs.Points.{Boards}
use Rattle.store_spec.specs.Record.{Record}
use Rattle.store_spec.proofs.Named.{named-boards}
use Rattle.store_spec.proofs.Packets.{run-different}
use Rattle.store_spec.proofs.Records.{Repairs}
use Rattle.repair_rows.specs.Steps.{others_at}
use Rattle.repair_rows.proofs.Others.{length-others}
use Rattle.repair_rows.proofs.Without.{without-place}
use Rattle.step_laws.specs.Steps.{Listed, Served, DifferentEach, place_at}
use Rattle.step_laws.proofs.Runs.{in-part}

-- as the checks' pass gives them
pub listed : (s : Record) (m : ℕ) (fresh helpers stand_ins : List ℕ) → Repairs s m fresh helpers stand_ins → Listed s.sizes fresh helpers stand_ins
listed s m fresh helpers stand_ins f = record {
  some-fresh = f.some-fresh;
  few-fresh = f.few-fresh;
  helper-count = f.helper-count;
  stand-in-count = f.stand-in-count;
  named-below = f.named-below;
  fresh-different = f.fresh-different;
  named-different = f.named-different;
  none-fresh = f.none-fresh;
}

different-left : (xs ys : List ℕ) → different (xs ++ ys) ≡ true → different xs ≡ true
different-left [] ys h = refl
different-left (x ∷ xs) ys h =
    let p = different-cons x (xs ++ ys) h in
    go (among xs x) refl p.0 (different-left xs ys p.1)
  where
    go : (t : Bool) → among xs x ≡ t → among (xs ++ ys) x ≡ false → different xs ≡ true → pick t false (different xs) ≡ true
    go true e n ih = absurd (true-false (among-append-left xs ys x e) n)
    go false e n ih = ih

piece-all : (P : ℕ → Type 0) (d a : ℕ) (l : List ℕ) → All P l → All P (piece d a l)
unfolding piece
piece-all P d a l h = take-alls P d (drop (a * d) l) (drop-alls P (a * d) l h)

-- what each board and each run of such lists is
module _ (n c : ℕ) (fresh boards : List ℕ) (f : Served n c fresh boards) where
  -- the p-th board serves a fresh one
  pub serves : (p : ℕ) → p < length boards → p / c < length fresh
  serves p h = (in-part p (length fresh) c (omega (arith, f.count, h))).0

  pub some-each : (p : ℕ) → p < length boards → 0 < c
  some-each p h = omega (arith, (in-part p (length fresh) c (omega (arith, f.count, h))).1)

  pub board-low : (p : ℕ) → p < length boards → get_or boards p 0 < n
  board-low p h = all-at (λ x. x < n) 0 boards (below_all n boards f.boards-below) p h

  pub served-low : (a : ℕ) → a < length fresh → get_or fresh a 0 < n
  served-low a h = all-at (λ x. x < n) 0 fresh (below_all n fresh f.fresh-below) a h

  pub run_end : (a : ℕ) → a < length fresh → a * c + c ≤ length boards
  run_end a h = omega (arith, f.count, part_end a c (length fresh) h)

  pub run-below : (a : ℕ) → below n (piece c a boards) ≡ true
  run-below a = all-below n (piece c a boards) (piece-all (λ x. x < n) c a boards (below_all n boards f.boards-below))

module _ (z : Sizes) (fresh helpers stand_ins : List ℕ) (f : Listed z fresh helpers stand_ins) where
  abbrev t : ℕ
  t = length fresh

  abbrev e : ℕ
  e = z.r - length fresh

  abbrev Low : List ℕ → Type 0
  Low = All (λ x. x < z.n)

  all-low : Low (fresh ++ (helpers ++ stand_ins))
  all-low = below_all z.n (fresh ++ (helpers ++ stand_ins)) f.named-below

  pub fresh-all : Low fresh
  fresh-all = all_left (λ x. x < z.n) fresh (helpers ++ stand_ins) all-low

  named-all : Low (helpers ++ stand_ins)
  named-all = all_right (λ x. x < z.n) fresh (helpers ++ stand_ins) all-low

  helpers-all : Low helpers
  helpers-all = all_left (λ x. x < z.n) helpers stand_ins named-all

  stand-ins-all : Low stand_ins
  stand-ins-all = all_right (λ x. x < z.n) helpers stand_ins named-all

  pub fresh-low : (a : ℕ) → a < t → get_or fresh a 0 < z.n
  fresh-low a h = all-at (λ x. x < z.n) 0 fresh fresh-all a h

  -- each run
  pub helpers-long : (a : ℕ) → a < t → length (piece z.d a helpers) ≡ z.d
  helpers-long a h = length-piece z.d a helpers (let n = f.helper-count in omega (arith, part_end a z.d t h))

  pub stand-ins-long : (a : ℕ) → a < t → length (piece e a stand_ins) ≡ e
  stand-ins-long a h = length-piece e a stand_ins (let n = f.stand-in-count in omega (arith, part_end a e t h))

  pub run-apart : (a : ℕ) → a < t → different (piece z.d a helpers ++ piece e a stand_ins) ≡ true
  unfolding piece
  run-apart a h = run-different z.d e fresh helpers stand_ins f.named-different a h

  pub helpers-different : (a : ℕ) → a < t → different (piece z.d a helpers) ≡ true
  helpers-different a h = different-left (piece z.d a helpers) (piece e a stand_ins) (run-apart a h)

  pub fresh-below : below z.n fresh ≡ true
  fresh-below = all-below z.n fresh fresh-all

  pub helpers-served : Served z.n z.d fresh helpers
  helpers-served = record { count = f.helper-count; fresh-below = fresh-below; boards-below = all-below z.n helpers helpers-all }

  pub stand-ins-served : Served z.n e fresh stand_ins
  stand-ins-served = record { count = f.stand-in-count; fresh-below = fresh-below; boards-below = all-below z.n stand_ins stand-ins-all }

  pub helpers-each : DifferentEach z.d fresh helpers
  helpers-each = record { each = helpers-different }

  -- ---- who takes part in a share: its helpers, its partners and itself

  run_none : (a : ℕ) → apart fresh (piece z.d a helpers ++ piece e a stand_ins) ≡ true
  run_none a =
      let all = every-all (λ x. not (among fresh x)) (helpers ++ stand_ins) f.none-fresh in
      all-every (λ x. not (among fresh x)) (piece z.d a helpers ++ piece e a stand_ins)
      (append-all (λ x. not (among fresh x) ≡ true) (piece z.d a helpers) (piece e a stand_ins)
      (piece-all (λ x. not (among fresh x) ≡ true) z.d a helpers (all_left (λ x. not (among fresh x) ≡ true) helpers stand_ins all))
      (piece-all (λ x. not (among fresh x) ≡ true) e a stand_ins (all_right (λ x. not (among fresh x) ≡ true) helpers stand_ins all)))

  abbrev party : ℕ → List ℕ
  party a = piece z.d a helpers ++ (piece e a stand_ins ++ others_at fresh a) ++ (get_or fresh a 0 ∷ [])

  parties : (a : ℕ) → a < t → Boards z (party a)
  parties a h =
      let i : ℕ = get_or fresh a 0 in
      let hs : List ℕ = piece z.d a helpers in
      let ss : List ℕ = piece e a stand_ins in
      subst (λ (q : List ℕ). Boards z (q ++ (i ∷ [])))
      (ap (λ (q : List ℕ). hs ++ ss ++ q) (without-place fresh a (t - 1) f.fresh-different h (let k = f.some-fresh in omega arith)) ∙ append_assoc hs ss (others_at fresh a))
      (named-boards z fresh fresh-all f.fresh-different i (get_d-among fresh a h) (hs ++ ss)
      (append-all (λ x. x < z.n) hs ss (piece-all (λ x. x < z.n) z.d a helpers helpers-all) (piece-all (λ x. x < z.n) e a stand_ins stand-ins-all))
      (run-apart a h) (run_none a))

  pub parties-below : (a : ℕ) → a < t → below z.n (party a) ≡ true
  parties-below a h = all-below z.n (party a) (parties a h).known

  pub parties-different : (a : ℕ) → a < t → different (party a) ≡ true
  parties-different a h = distinct-different (party a) (parties a h).once

  -- at most 32 of each
  pub partners-count : (a : ℕ) → a < t → length (piece e a stand_ins ++ others_at fresh a) ≡ z.r - 1
  partners-count a h =
      lib.ListN.length-append (piece e a stand_ins) (others_at fresh a) ∙ ap₂ ◌+◌ (stand-ins-long a h) (length-others fresh a)
      ∙ (let k = f.some-fresh in let m = f.few-fresh in omega arith)

-- ---- where packets lie, of t fresh boards with d helpers each

-- the first kind has pairs of bytes
pub place-first : (z : Sizes) (S t q : ℕ) → q < t * z.d → place_at z S t q ≡ q * (2 * S)
place-first z S t q h = let k : q ≤ t * z.d = omega arith in ap (λ (x : ℕ). (q + x) * S) (min-eq_left k) ∙ twice q S
  where
    twice : (a S : ℕ) → (a + a) * S ≡ a * (2 * S)
    twice a S = omega arith

pub place-later : (z : Sizes) (S t q : ℕ) → t * z.d ≤ q → place_at z S t q ≡ (q + t * z.d) * S
place-later z S t q h = ap (λ (x : ℕ). (q + x) * S) (min-eq_right h)

-- and ends before the end of the packet area
pub first_fits : (S t d r q : ℕ) → 1 ≤ r → q < t * d → q * (2 * S) + 2 * S ≤ S * t * (2 * d + r - 1)
first_fits S t d r q hr h =
    let a = part_end q (2 * S) (t * d) h in
    let b : S * t * (2 * d) ≤ S * t * (2 * d + r - 1) = native.Mathlib.Nat.mul-le-mul_left (S * t) (omega arith) in
    omega (arith, a, b, same S t d)
  where
    same : (S t d : ℕ) → t * d * (2 * S) ≡ S * t * (2 * d)
    same S t d = omega arith

pub later-fits : (S t d r q : ℕ) → 1 ≤ r → q < t * (d + r - 1) → (q + t * d) * S + S ≤ S * t * (2 * d + r - 1)
later-fits S t d r q hr h =
    let w : 2 * d + r - 1 ≡ d + r - 1 + d = omega arith in
    let n : q + t * d < t * (2 * d + r - 1) = rw w (omega (arith, native.Mathlib.Nat.mul-add t (d + r - 1) d, h)) in
    let a = part_end (q + t * d) S (t * (2 * d + r - 1)) n in
    omega (arith, a, same S t (2 * d + r - 1))
  where
    same : (S t m : ℕ) → t * m * S ≡ S * t * m
    same S t m = omega arith

-- all helper packets end before any later packet
pub helpers-before : (S t d q : ℕ) → t * d ≤ q → t * (d * (2 * S)) ≤ (q + t * d) * S
helpers-before S t d q hq =
    let c : (t * d + t * d) * S ≤ (q + t * d) * S = mul-le-mul_right S (omega arith) in
    omega (arith, c, same t d S)
  where
    same : (t d S : ℕ) → (t * d + t * d) * S ≡ t * (d * (2 * S))
    same t d S = omega arith

-- there are few
pub few-packets : (z : Sizes) → Legal z → (t : ℕ) → t ≤ z.r → (t * z.d ≤ 1024) × (t * (z.d + z.r - 1) ≤ 1024)
few-packets z f t h =
    let a : t ≤ 32 = omega (arith, f.enough, f.few) in
    let b : z.d ≤ 32 = omega (arith, f.enough, f.few) in
    let c : z.d + z.r - 1 ≤ 32 = omega (arith, f.enough, f.few) in
    (mul-le-mul a b, mul-le-mul a c)
