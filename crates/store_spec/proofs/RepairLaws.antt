-- What an accepted repair does, over any record and any area.
-- Assumes nothing.
use Prim.Native.Nat.{ℕ, ◌<◌}
use mathlib.Core.Path.{◌≡◌, refl, ◌∙◌, ap}
use mathlib.Core.Bool.{Bool, true, false, not}
use mathlib.Core.List.{List, [], ◌++◌}
use lib.ListN.{length}
use Rattle.lists.specs.Lists.{All, joined}
use Rattle.lists.proofs.Alls.{all-imp, all_left}
use Rattle.lists.proofs.Tests.{true-false, every-all}
use Rattle.sizes.specs.Refusals.{first, store_order}
use Rattle.std.specs.Prelude.{Ok}
use Rattle.store_spec.specs.Calls.{repair_lines, StoreOutcome, repair_call, repair_done}
use Rattle.store_spec.specs.Packets.{helper_packets, stand_in_packets, exchange_packets, partner_packets, repair_packets, hear_helpers, hear_partners, stand_ins_each, fresh_share}
use Rattle.store_spec.specs.Record.{held, used_len, in_service, Record}
use Rattle.store_spec.proofs.Area.{shares-same}
use Rattle.store_spec.proofs.Records.{sound-facts, used-fits, Repairs, repair-facts}
use Rattle.lists.proofs.Boards.{below_all}
use Rattle.store_spec.specs.RepairLaws.{Repaired, RepairLaws}
use Rattle.store_spec.proofs.Packets.{heard-run, contents-to}
use Rattle.store_spec.proofs.Real.{code-lengths}
use Rattle.store_spec.proofs.Repair.{partners_of, moved-is, partners-are, share-parts, gets, fresh-length}
use Rattle.store_spec.proofs.Seam.{Lengths}
use Rattle.store_spec.proofs.Passed.{settle-pass, passes}

module _ (s : Record) (area fresh helpers stand_ins : List ℕ) (pass : first store_order (repair_lines s (length area) fresh helpers stand_ins) ≡ Ok tt) where
  facts : Repairs s (length area) fresh helpers stand_ins
  facts = repair-facts s (length area) fresh helpers stand_ins pass

  is-done : repair_call s area fresh helpers stand_ins ≡ repair_done s area fresh helpers stand_ins
  unfolding repair_call
  is-done = settle-pass _ _ _ pass

  repaired : Lengths s.points s.sizes → Repaired s area fresh helpers stand_ins
  unfolding helper_packets stand_in_packets exchange_packets partner_packets repair_packets partners_of
  repaired l =
      let g = sound-facts s facts.is-sound in
      record {
        moved = ap (λ (o : StoreOutcome). o.answer) is-done;
        moved-is = moved-is s area fresh helpers stand_ins (length area) l facts;
        packets-are = refl;
        shares-are = share-parts s area fresh helpers stand_ins (length area) l facts;
        helpers-are = heard-run _ s.sizes.d fresh helpers facts.fresh-different;
        stand-ins-are = heard-run _ (stand_ins_each s fresh) fresh stand_ins facts.fresh-different;
        partners-are = partners-are s area fresh helpers stand_ins (length area) l facts;
        helpers-send = λ i e. contents-to _ i (hear_helpers s.sizes.d fresh helpers);
        stand-ins-send = λ i e. contents-to _ i (hear_helpers (stand_ins_each s fresh) fresh stand_ins);
        partners-send = λ i e. contents-to _ i (hear_partners fresh) ∙ ap (joined _) (partners-are s area fresh helpers stand_ins (length area) l facts i e);
        gets = gets s area fresh helpers stand_ins (length area) l facts;
        has = λ i e. ap (λ (o : StoreOutcome). held s o.area i) is-done
            ∙ shares-same s (fresh_share s area fresh helpers stand_ins) (used_len s) (fresh-length s area fresh helpers stand_ins (length area) l facts) (used-fits s g) fresh area
            facts.area-is (all_left (λ x. x < s.sizes.n) fresh (helpers ++ stand_ins) (below_all s.sizes.n (fresh ++ (helpers ++ stand_ins)) facts.named-below)) i e;
      }

pub accepted-repair : (s : Record) (area fresh helpers stand_ins : List ℕ) → (repair_call s area fresh helpers stand_ins).answer.refusal ≡ 0 → Repaired s area fresh helpers stand_ins
unfolding repair_call
accepted-repair s area fresh helpers stand_ins h =
    let p = passes (first store_order (repair_lines s (length area) fresh helpers stand_ins)) s area [] (repair_done s area fresh helpers stand_ins) h in
    repaired s area fresh helpers stand_ins p (code-lengths s.points s.sizes (sound-facts s (facts s area fresh helpers stand_ins p).is-sound).is-legal)

fresh-out : (s : Record) (area fresh helpers stand_ins : List ℕ) → (repair_call s area fresh helpers stand_ins).answer.refusal ≡ 0 → All (λ i. in_service s i ≡ false) fresh
unfolding repair_call
fresh-out s area fresh helpers stand_ins h =
    let p = passes (first store_order (repair_lines s (length area) fresh helpers stand_ins)) s area [] (repair_done s area fresh helpers stand_ins) h in
    all-imp (λ i. not (in_service s i) ≡ true) (λ i. in_service s i ≡ false) (λ i. off (in_service s i)) fresh
    (every-all (λ i. not (in_service s i)) fresh (facts s area fresh helpers stand_ins p).fresh-out)
  where
    off : (t : Bool) → not t ≡ true → t ≡ false
    off true e = absurd (true-false e refl)
    off false e = refl

pub repair-laws : RepairLaws
repair-laws = record { repaired = accepted-repair; fresh-out = fresh-out }
