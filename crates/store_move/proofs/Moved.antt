-- A move past its check: what the repair of the one board asks, at the new points and over the others' shares afresh, and what it leaves in the area.
-- Assumes nothing.
use Prim.Native.Nat.{ℕ, ◌*◌, ◌<◌}
use mathlib.Core.Path.{◌≡◌, sym, ap, ap₂, ◌∙◌}
use mathlib.Core.Bool.{false, not}
use mathlib.Core.List.{List, [], ◌∷◌, ◌++◌}
use lib.ListN.{length, get_or, drop, set}
use borrow.Author.Tests.{le-leb, eq-eqb}
use Rattle.lists.specs.Lists.{join, piece, put}
use Rattle.lists.proofs.Boards.{below_all}
use Rattle.lists.proofs.Tests.{hold-alls}
use Rattle.std.specs.Prelude.{Ok}
use Rattle.sizes.specs.Sizing.{α}
use Rattle.sizes.specs.Refusals.{first, store_order, Check}
use Rattle.sizes.proofs.Orders.{◌also◌, off-pass}
use Rattle.store_spec.specs.Record.{Record, with_marks, stripe_count, part_len, put_shares}
use Rattle.store_spec.specs.Calls.{settle, refused, list_lines, repair_lines, repair_done, repair_call}
use Rattle.store_spec.specs.Move.{moved_record, afresh_area, moved_share}
use Rattle.store_spec.proofs.Move.{repairs, made-is}
use Rattle.store_spec.proofs.Records.{Moves, Repairs, count_tests, repeat_tests}
use Rattle.area_puts.specs.Steps.{puts}
use Rattle.repair_stripe.specs.Steps.{rebuilt}
use Rattle.check_repair.proofs.Repairable.{Repairable, repairable}
use Rattle.repair_seam.proofs.Repaired.{named_of, run_of, repaired}

-- a repair of which these facts hold passes
repairs-pass : (s : Record) (m : ℕ) (fresh helpers stand_ins : List ℕ) → Repairs s m fresh helpers stand_ins
    → first store_order (repair_lines s m fresh helpers stand_ins) ≡ Ok tt
unfolding repair_lines list_lines
repairs-pass s m fresh helpers stand_ins f =
    off-pass (repair_lines s m fresh helpers stand_ins) store_order
    (ap not f.is-sound
    also ap not (eq-eqb _ _ f.area-is)
    also ap not f.is-written
    also ap not (hold-alls (count_tests s fresh helpers stand_ins)
    (le-leb _ _ f.some-fresh, (le-leb _ _ f.few-fresh, (eq-eqb _ _ f.helper-count, (eq-eqb _ _ f.stand-in-count, tt)))))
    also ap not f.named-below
    also ap not (hold-alls (repeat_tests s fresh helpers stand_ins) (f.fresh-different, (f.named-different, (f.none-fresh, tt))))
    also ap not f.fresh-out
    also ap not f.all_up
    also tt)

-- the record at the new points, the board out of service
abbrev pub lost : Record → ℕ → ℕ → Record
lost s board new = with_marks (moved_record s board new) (set s.marks board false)

module _ (s : Record) (area : List ℕ) (board new : ℕ) (helpers partners : List ℕ) (f : Moves s (length area) board new helpers partners) (byte : new < 256) where
  abbrev away : Record
  away = lost s board new

  abbrev others : List ℕ
  others = afresh_area s area board new

  -- the board is one of the n
  pub board-known : board < s.sizes.n
  board-known = (below_all s.sizes.n (board ∷ (helpers ++ partners)) f.named-below).0

  pub asks : Repairable (lost s board new) (length (afresh_area s area board new)) (board ∷ []) helpers partners
  asks = repairable away (length others) (board ∷ []) helpers partners (repairs s area board new helpers partners f byte)

  done : (repair_call away others (board ∷ []) helpers partners).answer.refusal ≡ 0
  unfolding repair_call
  done =
      ap (λ (c : Check). (settle c (refused away others []) (repair_done away others (board ∷ []) helpers partners)).answer.refusal)
      (repairs-pass away (length others) (board ∷ []) helpers partners (repairs s area board new helpers partners f byte))

  -- stripe t of the board, from what all hold in an area
  abbrev pub stripe : List ℕ → ℕ → ℕ → List ℕ
  stripe held a t =
      rebuilt s.sizes (set s.points board new) (λ j. piece (α s.sizes) t (drop (j * part_len s) held)) (board ∷ [])
      (run_of (lost s board new) (board ∷ [])) (named_of (lost s board new) (board ∷ []) helpers partners) a

  -- that area with so many stripes of it
  abbrev pub restored : List ℕ → ℕ → List ℕ
  restored held count = puts (λ a. get_or (board ∷ []) a 0 * part_len s) (λ a. join count (stripe held a)) 1 held

  pub moved-put : (before after : List ℕ) (count : ℕ) → count ≡ stripe_count s → before ≡ afresh_area s area board new → after ≡ restored before count
      → after ≡ put_shares s (moved_share s area board new helpers partners) (board ∷ []) (afresh_area s area board new)
  moved-put before after count ec eb e =
      e ∙ ap₂ restored eb ec
      ∙ repaired away others (board ∷ []) helpers partners (repairs s area board new helpers partners f byte) done
      ∙ ap (λ (l : List ℕ). put (afresh_area s area board new) (board * part_len s) l) (sym (made-is s area board new helpers partners f byte board))
