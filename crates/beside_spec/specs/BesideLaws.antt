-- Request A.8: a careful read, a move and the calls that are BUSY, beside the record of a repair. proofs/BesideLaws.antt has `careful-beside`, `move-beside` and
-- `busy-beside`.
-- Assumes nothing.
use Rattle.std.specs.Prelude.{◌≡◌, true, false, ◌↔◌, List, ℕ}
use Rattle.store_spec.specs.Record.{Record}
use Rattle.beside_spec.specs.Running.{Running, sound_beside}
use Rattle.beside_spec.specs.Both.{beside, careful_both, move_both, write_both, repair_both, start_call, edit_both}
use Rattle.store_spec.specs.Careful.{careful_call}
use Rattle.store_spec.specs.Move.{move_call}

-- a careful read
pub record CarefulBeside : Type 0 where
  -- request A.8: beside a record of a repair that is not SIZE, running or not, it is the same call
  pub same_beside : (s : Record) (p : Running) (area boards output : List ℕ) → sound_beside s p ≡ true
      → careful_both s p area boards output ≡ beside p (careful_call s area boards output)

-- a move
pub record MoveBeside : Type 0 where
  -- request A.8: beside a record of a repair it is accepted just where it is accepted by itself and none runs, and then does the same
  pub taken-beside : (s : Record) (p : Running) (area : List ℕ) (board point : ℕ) (helpers partners : List ℕ)
      → ((move_both s p area board point helpers partners).answer.refusal ≡ 0)
      ↔ (((move_call s area board point helpers partners).answer.refusal ≡ 0) × (p.running ≡ false))
  pub same_beside : (s : Record) (p : Running) (area : List ℕ) (board point : ℕ) (helpers partners : List ℕ)
      → (move_both s p area board point helpers partners).answer.refusal ≡ 0
      → move_both s p area board point helpers partners ≡ beside p (move_call s area board point helpers partners)

-- "16 BUSY, a write, edit, repair or start during a repair": none of them is accepted while one runs
pub record BusyBeside : Type 0 where
  pub write-busy : (s : Record) (p : Running) (area file : List ℕ) → p.running ≡ true → (write_both s p area file).answer.refusal ≡ 0 → ⊥
  pub repair-busy : (s : Record) (p : Running) (area fresh helpers stand_ins : List ℕ) → p.running ≡ true → (repair_both s p area fresh helpers stand_ins).answer.refusal ≡ 0 → ⊥
  pub start-busy : (s : Record) (p : Running) (area fresh helpers stand_ins : List ℕ) → p.running ≡ true → (start_call s p area fresh helpers stand_ins).answer.refusal ≡ 0 → ⊥
  pub edit-busy : (s : Record) (p : Running) (area : List ℕ) (offset : ℕ) (bytes boards : List ℕ) → p.running ≡ true
      → (edit_both s p area offset bytes boards).answer.refusal ≡ 0 → ⊥
