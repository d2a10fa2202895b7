-- A move: what it hands on where its check refuses, and where it passes.
-- Assumes nothing.
use Prim.Native.Nat.{ℕ, ◌+◌, ◌*◌, ◌-◌, ◌≤◌, ◌<◌}
use mathlib.Core.Path.{◌≡◌, refl, sym, ap, ap₂, ◌∙◌}
use mathlib.Core.List.{List, [], ◌∷◌, ◌++◌}
use native.Mathlib.Nat.{mul-one}
use native.Mathlib.Omega.{arith}
use lib.ListN.{length, drop}
use Rattle.lists.proofs.Boards.{below_all}
use Rattle.sizes.specs.declared.Refusal.{Refusal}
use Rattle.std.specs.Prelude.{Ok, Err}
use Rattle.sizes.specs.Refusals.{first, store_order, Check}
use Rattle.sizes.proofs.Legal.{legal-facts}
use Rattle.store_spec.specs.Record.{Record, stripe_count}
use Rattle.store_spec.specs.Packets.{total}
use Rattle.store_spec.specs.Calls.{accepted}
use Rattle.store_spec.specs.Move.{moved_record, move_packets, move_lines, move_done}
use Rattle.beside_spec.specs.Running.{Running}
use Rattle.beside_spec.specs.Both.{Outcome, beside, move_lines_both, move_both}
use Rattle.store_spec.proofs.Records.{Moves, move-facts, sound-facts}
use Rattle.beside_spec.proofs.Beside.{alone-busy}
use Rattle.store_spec.proofs.Move.{total-is}
use Rattle.store_lines.proofs.Ready.{Ready, ready}
use Rattle.store_work.specs.Handing.{turned_down}
use Rattle.store_work.proofs.Settled.{refused-by, done-by}

-- the work alone, of a move that passes
module _ (s : Record) (area : List ℕ) (board new : ℕ) (helpers partners : List ℕ) where
  abbrev alone : Check
  alone = first store_order (move_lines s (length area) board new helpers partners)

  facts : alone ≡ Ok tt → Moves s (length area) board new helpers partners
  facts h = move-facts s (length area) board new helpers partners h

  pub move-ready : alone ≡ Ok tt → Ready s
  move-ready h = ready s (facts h).is-sound

  -- some board is rebuilt, and the board has a point
  pub move_some : alone ≡ Ok tt → 1 ≤ s.sizes.r
  move_some h = (legal-facts _ (sound-facts s (facts h).is-sound).is-legal).some-fresh

  pub move-known : alone ≡ Ok tt → board < 32
  move-known h =
      let f = facts h in
      omega (arith, (below_all s.sizes.n (board ∷ (helpers ++ partners)) f.named-below).0, (legal-facts _ (sound-facts s f.is-sound).is-legal).few)

  abbrev bytes : ℕ → ℕ
  bytes count = count * 1 * (2 * s.sizes.d + s.sizes.r - 1)

  pub move-moves : (moved count : ℕ) → alone ≡ Ok tt → count ≡ stripe_count s → moved ≡ bytes count → moved ≡ total (move_packets s area board new helpers partners)
  move-moves moved count h ec eb =
      eb ∙ ap bytes ec
      ∙ ap (λ (m : ℕ). m * (2 * s.sizes.d + s.sizes.r - 1)) (mul-one (stripe_count s))
      ∙ sym (total-is s area board new helpers partners (facts h))

module _ (s : Record) (p : Running) (area : List ℕ) (board new : ℕ) (helpers partners : List ℕ) where
  abbrev pub checked : Check
  checked = first store_order (move_lines_both s p (length area) board new helpers partners)

  pub move-refuses : {r : Check} {x : Refusal} → r ≡ checked → r ≡ Err x → turned_down s p area [] [] x ≡ move_both s p area board new helpers partners
  unfolding move_both
  move-refuses e h = refused-by (turned_down s p area [] []) (beside p (move_done s area board new helpers partners)) e h

  -- the call alone passes too
  pub move-alone : checked ≡ Ok tt → first store_order (move_lines s (length area) board new helpers partners) ≡ Ok tt
  unfolding move_lines_both move_lines
  move-alone h = (alone-busy s p p.running (drop 1 (move_lines s (length area) board new helpers partners)) refl h).0

  -- what a move hands on with this answer and this area
  abbrev pub carried : ℕ → List ℕ → Outcome
  carried moved after = beside p (accepted moved (moved_record s board new) after [])

  pub move-works : (after : List ℕ) (moved : ℕ) → checked ≡ Ok tt → moved ≡ total (move_packets s area board new helpers partners)
      → after ≡ (move_done s area board new helpers partners).area → carried moved after ≡ move_both s p area board new helpers partners
  unfolding move_both
  move-works after moved h eb ea = ap₂ carried eb ea ∙ done-by (turned_down s p area [] []) (beside p (move_done s area board new helpers partners)) h
