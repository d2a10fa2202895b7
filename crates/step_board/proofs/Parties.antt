-- Who takes part in a share, and where the packets lie for one fresh board.
-- Assumes nothing.
use Prim.Native.Nat.{ℕ, ◌+◌, ◌-◌, ◌*◌, ◌≤◌, ◌<◌}
use mathlib.Core.Path.{◌≡◌, sym, ap, ◌∙◌}
use mathlib.Core.Bool.{true}
use mathlib.Core.List.{List, [], ◌∷◌, ◌++◌}
use native.Mathlib.Omega.{arith}
use lib.ListN.{length, get_or, take, drop, length-take, length-drop}
use lib.Seq.{drop-drop}
use Rattle.lists.specs.Tests.{below}
use Rattle.lists.specs.Lists.{piece}
use Rattle.lists.proofs.Alls.{all_left}
use Rattle.lists.proofs.Boards.{below_all, all-below}
use Rattle.lists.proofs.Put.{part_end}
use Rattle.finish_bytes.proofs.Shares.{last-known}
use Rattle.repair_rows.specs.Steps.{others_at}

-- each of them is known
pub party-known : (n a : ℕ) (helpers stand_ins fresh : List ℕ) → below n (helpers ++ (stand_ins ++ others_at fresh a) ++ (get_or fresh a 0 ∷ [])) ≡ true
    → (below n helpers ≡ true) × (below n stand_ins ≡ true) × (get_or fresh a 0 < n)
party-known n a helpers stand_ins fresh h =
    let k = last-known n (get_or fresh a 0) helpers (stand_ins ++ others_at fresh a) h in
    (k.0, all-below n stand_ins (all_left (λ b. b < n) stand_ins (others_at fresh a) (below_all n (stand_ins ++ others_at fresh a) k.1)), k.2)

-- ---- a packet area of t boards: d helpers with pairs, e stand-ins and t − 1 others with bytes, for each of S stripes

pub record Lying (S t d e m a : ℕ) : Type 0 where
  pub whole : t * (d * (2 * S)) + t * (e * S) + t * ((t - 1) * S) ≡ m
  pub helpers-end : a * (d * (2 * S)) + d * (2 * S) ≤ t * (d * (2 * S))
  pub stand-ins-end : a * (e * S) + e * S ≤ t * (e * S)
  pub others-end : a * ((t - 1) * S) + (t - 1) * S ≤ t * ((t - 1) * S)

pub lying : (S t d e r m a : ℕ) → e + t ≡ r → a < t → m ≡ S * t * (2 * d + r - 1) → Lying S t d e m a
lying S t d e r m a er h em =
    let w : 2 * d + r - 1 ≡ 2 * d + e + (t - 1) = omega arith in
    record {
      whole = spread S t d e (t - 1) ∙ sym (em ∙ ap (λ (n : ℕ). S * t * n) w);
      helpers-end = part_end a (d * (2 * S)) t h;
      stand-ins-end = part_end a (e * S) t h;
      others-end = part_end a ((t - 1) * S) t h;
    }
  where
    spread : (S t d e x : ℕ) → t * (d * (2 * S)) + t * (e * S) + t * (x * S) ≡ S * t * (2 * d + e + x)
    spread S t d e x = omega arith

-- a part of the list behind the first x
pub part-behind : (x w a : ℕ) (l : List ℕ) → take (x + a * w + w - (x + a * w)) (drop (x + a * w) l) ≡ piece w a (drop x l)
unfolding piece
part-behind x w a l =
    let e : x + a * w + w - (x + a * w) ≡ w = omega arith in
    ap (λ (n : ℕ). take n (drop (x + a * w) l)) e ∙ ap (take w) (sym (drop-drop (a * w) x l))

pub part_length : (from w : ℕ) (l : List ℕ) → from + w ≤ length l → length (take (from + w - from) (drop from l)) ≡ w
part_length from w l h = simp (length-take, length-drop) (omega arith)
