-- What the kernel of a repair asks, from what its check told.
-- Assumes nothing.
use Prim.Native.Nat.{ℕ, ◌-◌, ◌*◌, ◌≤◌, ◌<◌}
use mathlib.Core.Path.{◌≡◌}
use mathlib.Core.Bool.{true, not}
use mathlib.Core.List.{List, ◌++◌}
use lib.ListN.{length}
use Rattle.lists.specs.Tests.{among, below, different, apart}
use Rattle.lists.specs.Lists.{piece}
use Rattle.lists.proofs.Alls.{all_left, all_right}
use Rattle.lists.proofs.Boards.{below_all, all-below}
use Rattle.lists.proofs.Tests.{every-all, all-every}
use Rattle.store_spec.specs.Record.{Record, area_len}
use Rattle.store_spec.specs.Packets.{stand_ins_each}
use Rattle.store_spec.proofs.Packets.{run-different}
use Rattle.store_spec.proofs.Records.{Repairs}
use Rattle.store_lines.proofs.Ready.{Ready, ready}

pub record Repairable (s : Record) (m : ℕ) (fresh helpers stand_ins : List ℕ) : Type 0 where
  pub is-ready : Ready s
  pub some-fresh : 1 ≤ length fresh
  pub few-fresh : length fresh ≤ s.sizes.r
  pub fresh-known : below s.sizes.n fresh ≡ true
  pub helper-count : length helpers ≡ length fresh * s.sizes.d
  pub helpers-known : below s.sizes.n helpers ≡ true
  pub stand-in-count : length stand_ins ≡ length fresh * (s.sizes.r - length fresh)
  pub stand-ins-known : below s.sizes.n stand_ins ≡ true
  pub fresh-different : different fresh ≡ true
  pub none-helps : apart fresh helpers ≡ true
  pub none-stands-in : apart fresh stand_ins ≡ true
  pub runs-different : (a : ℕ) → a < length fresh → different (piece s.sizes.d a helpers ++ piece (s.sizes.r - length fresh) a stand_ins) ≡ true
  pub area-is : m ≡ area_len s

pub repairable : (s : Record) (m : ℕ) (fresh helpers stand_ins : List ℕ) → Repairs s m fresh helpers stand_ins → Repairable s m fresh helpers stand_ins
unfolding piece
repairable s m fresh helpers stand_ins k =
    let n = s.sizes.n in
    let all = below_all n (fresh ++ (helpers ++ stand_ins)) k.named-below in
    let rest = all_right (λ x. x < n) fresh (helpers ++ stand_ins) all in
    let none = every-all (λ x. not (among fresh x)) (helpers ++ stand_ins) k.none-fresh in
    record {
      is-ready = ready s k.is-sound;
      some-fresh = k.some-fresh;
      few-fresh = k.few-fresh;
      fresh-known = all-below n fresh (all_left (λ x. x < n) fresh (helpers ++ stand_ins) all);
      helper-count = k.helper-count;
      helpers-known = all-below n helpers (all_left (λ x. x < n) helpers stand_ins rest);
      stand-in-count = k.stand-in-count;
      stand-ins-known = all-below n stand_ins (all_right (λ x. x < n) helpers stand_ins rest);
      fresh-different = k.fresh-different;
      none-helps = all-every (λ x. not (among fresh x)) helpers (all_left (λ x. not (among fresh x) ≡ true) helpers stand_ins none);
      none-stands-in = all-every (λ x. not (among fresh x)) stand_ins (all_right (λ x. not (among fresh x) ≡ true) helpers stand_ins none);
      runs-different = run-different s.sizes.d (stand_ins_each s fresh) fresh helpers stand_ins k.named-different;
      area-is = k.area-is;
    }
