-- A move: store and ledger reply alike, and every board then holds its share at the new points.
-- Assumes nothing.
use Prim.Native.Nat.{ℕ, ◌<◌}
use mathlib.Core.Path.{◌≡◌, refl, sym, ◌∙◌, ap}
use mathlib.Core.Bool.{false}
use mathlib.Core.List.{List, []}
use lib.ListN.{length, drop, set}
use Rattle.lists.specs.Tests.{given}
use Rattle.lists.proofs.Boards.{all_among}
use Rattle.sizes.specs.Refusals.{first, store_order, said}
use Rattle.std.specs.Prelude.{Ok}
use Rattle.board_spec.specs.Calls.{file_of}
use Rattle.store_spec.specs.Move.{move_lines, move_done}
use Rattle.beside_spec.specs.Running.{Running}
use Rattle.beside_spec.specs.Both.{move_lines_both, move_both}
use Rattle.beside_spec.specs.BothCalls.{store_lines}
use Rattle.ledger_spec.specs.Ledger.{Book, book_record, Tells, book_lines, pointed_book, packets_after, enter, accept}
use Rattle.beside_spec.specs.Acting.{act, move}
use Rattle.store_spec.proofs.Move.{new-pointed, total-is, result-long, move-true, in-service}
use Rattle.store_spec.proofs.Records.{Sound, Moves, facts-sound, move-facts}
use Rattle.store_spec.proofs.Seam.{AllLaws}
use Rattle.beside_spec.proofs.Beside.{alone-busy}
use Rattle.ledger_spec.proofs.Step.{Inv, Runs, runs_none, noted-sound, none-serve, facts, up, at, same_check, none_runs, Good, good-both, refusal-good}

module _ (laws : AllLaws) (b : Book) (area : List ℕ) (v : Inv b area) (board point : ℕ) (helpers partners : List ℕ) where
  known : Sound (book_record b)
  known = facts laws b area v

  move-inv : point < 256 → Moves (book_record b) (length area) board point helpers partners
      → Inv (pointed_book b (set b.points board point)) (move_done (book_record b) area board point helpers partners).area
  move-inv ok f =
      record {
        as_long = result-long (book_record b) area board point helpers partners f ok ∙ v.as_long;
        is-sound = facts-sound (book_record (pointed_book b (set b.points board point)))
            (noted-sound b known (set b.points board point) b.file b.service (new-pointed (book_record b) area board point helpers partners f ok) known.fits
            v.serving (none-serve laws b area v));
        bytes = v.bytes;
        serving = v.serving;
        room = v.room;
        holds = λ i e. move-true (book_record b) area board point helpers partners f ok (file_of b.file) refl v.bytes
            (λ j h. v.holds j (sym (up laws b area v j) ∙ in-service (book_record b) area board point helpers partners f ok j h))
            i (all_among (λ x. x < b.sizes.n) b.service i v.serving e);
      }

module _ (laws : AllLaws) (b : Book) (area : List ℕ) (v : Inv b area) (packets : List ℕ) (g : Runs b b.repairing area packets) (p : Running) (tells : Tells b.sizes b.repairing p)
    (board point : ℕ) (helpers partners : List ℕ) where
  move_same : first store_order (move_lines_both (book_record b) p (length area) board point helpers partners) ≡ first store_order (book_lines b (move board point helpers partners))
  unfolding store_lines move_lines_both move_lines book_lines
  move_same = same_check laws b area v packets g p tells (move board point helpers partners) (λ _. refl)

  move-alone : first store_order (move_lines_both (book_record b) p (length area) board point helpers partners) ≡ Ok tt
      → (first store_order (move_lines (book_record b) (length area) board point helpers partners) ≡ Ok tt) × (given b.repairing ≡ false)
  unfolding move_lines_both move_lines
  move-alone e =
      let a = alone-busy (book_record b) p p.running (drop 1 (move_lines (book_record b) (length area) board point helpers partners)) refl e in
      (a.0, none_runs laws b area v packets g p tells a.1)

  pub move-good : point < 256
      → Good (packets_after packets (move board point helpers partners)) (act (at laws b area v packets g p tells) (move board point helpers partners))
      (enter b (move board point helpers partners))
  unfolding act enter accept move_both
  move-good ok =
      good-both (packets_after packets (move board point helpers partners)) _ _ _ _ _ _ move_same
      (λ x. refusal-good laws b area v packets g p tells (packets_after packets (move board point helpers partners)) [] [] x refl)
      (λ e. let a = move-alone e in
      let f = move-facts (book_record b) (length area) board point helpers partners a.0 in
      record {
        alike = ap (λ (m : ℕ). record { answer = said (Ok m); output = [] }) (total-is (book_record b) area board point helpers partners f);
        same-record = refl;
        same-running = tells;
        inv = move-inv laws b area v board point helpers partners ok f;
        runs = runs_none _ b.repairing _ _ a.1;
      })
