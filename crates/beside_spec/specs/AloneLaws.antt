-- Request A.8: the record of a repair by its parts, and the calls with such a record beside: each is the call alone, so that what is said of the calls alone (Demand1,
-- EditLaws, CarefulLaws, MoveLaws, MarkLaws) holds of what is called. proofs/AloneLaws.antt has `alone-laws : AloneLaws`.
-- Assumes nothing.
use Rattle.std.specs.Prelude.{◌≡◌, true, false, ◌↔◌, List, [], ◌∷◌, ◌++◌, ℕ, ◌+◌, ◌-◌, ◌*◌, ◌<◌, eqb, length, take, replicate}
use Rattle.lists.specs.Tests.{pick, alls, among}
use Rattle.lists.specs.Lists.{fit}
use Rattle.sizes.specs.declared.Sizes.{Sizes}
use Rattle.sizes.specs.Sizing.{stripes}
use Rattle.store_spec.specs.Record.{Record, sound, area_len}
use Rattle.store_spec.specs.Calls.{StoreOutcome, set_up_call, write_call, lose_call, repair_call, read_call}
use Rattle.store_spec.specs.Edit.{edit_call}
use Rattle.store_spec.specs.Careful.{careful_call}
use Rattle.beside_spec.specs.Running.{Running, idle, running_by, with_carried, fresh_of, helpers_of, stand_ins_of, named_in, packet_count, packets_len, sound_beside}
use Rattle.beside_spec.specs.Both.{Outcome, beside, set_up_both, write_both, lost_beside, lose_both, repair_both, read_both, edit_both, careful_both, start_call, move_both}
use Rattle.store_spec.specs.Move.{move_call}

-- the outcome of a call alone, with this record of a repair handed on and no packet area
pub record AsAlone (p : Running) (a : StoreOutcome) (o : Outcome) : Type 0 where
  pub answer-is : o.answer ≡ a.answer
  pub handed-is : o.handed ≡ a.handed
  pub running-is : o.running ≡ p
  pub area-is : o.area ≡ a.area
  pub output-is : o.output ≡ a.output
  pub packets-none : o.packets ≡ []

-- an accepted start: it reports 0, record and area stay, and a repair runs by just its lists, with no packet carried
pub record StartedBy (s : Record) (area fresh helpers stand_ins : List ℕ) (o : Outcome) : Type 0 where
  pub reports : o.answer.reported ≡ 0
  pub same-record : o.handed ≡ s
  pub same_area : o.area ≡ area
  pub runs : o.running.running ≡ true
  pub none-carried : o.running.carried ≡ 0
  pub fresh-are : fresh_of o.running ≡ fresh
  pub helpers-are : helpers_of s.sizes o.running ≡ helpers
  pub stand-ins-are : stand_ins_of s.sizes o.running ≡ stand_ins

pub record AloneLaws : Type 0 where
  -- "set up, unless refused, hands it on idle, unexamined"
  pub set-up-alone : (old : Record) (p : Running) (z : Sizes) (xs : List ℕ) (c : ℕ)
      → AsAlone (pick (eqb (set_up_call old z xs c).answer.refusal 0) idle p) (set_up_call old z xs c) (set_up_both old p z xs c)
  -- "Reads go on meanwhile": with a record beside that is not SIZE, whether it runs or not; and so do losses, which may end the repair
  pub read-alone : (s : Record) (p : Running) (area boards output : List ℕ) → sound_beside s p ≡ true
      → AsAlone p (read_call s area boards output) (read_both s p area boards output)
  pub careful-alone : (s : Record) (p : Running) (area boards output : List ℕ) → sound_beside s p ≡ true
      → AsAlone p (careful_call s area boards output) (careful_both s p area boards output)
  pub lose-alone : (s : Record) (p : Running) (area : List ℕ) (board : ℕ) → sound_beside s p ≡ true
      → AsAlone (pick (eqb (lose_call s area board).answer.refusal 0) (lost_beside s p board) p) (lose_call s area board) (lose_both s p area board)
  -- the others where none runs
  pub write_alone : (s : Record) (p : Running) (area file : List ℕ) → p.running ≡ false → AsAlone p (write_call s area file) (write_both s p area file)
  pub repair-alone : (s : Record) (p : Running) (area fresh helpers stand_ins : List ℕ) → p.running ≡ false
      → AsAlone p (repair_call s area fresh helpers stand_ins) (repair_both s p area fresh helpers stand_ins)
  pub edit-alone : (s : Record) (p : Running) (area : List ℕ) (offset : ℕ) (bytes boards : List ℕ) → p.running ≡ false
      → AsAlone p (edit_call s area offset bytes boards) (edit_both s p area offset bytes boards)
  pub move-alone : (s : Record) (p : Running) (area : List ℕ) (board point : ℕ) (helpers partners : List ℕ) → p.running ≡ false
      → AsAlone p (move_call s area board point helpers partners) (move_both s p area board point helpers partners)
  -- a record that is not running is not SIZE, whatever else it has
  pub idle-sound : (s : Record) (p : Running) → p.running ≡ false → sound_beside s p ≡ true
  -- "lists that a start would refuse": beside a sound record of the store a record that runs is not SIZE exactly where a start by its lists, with none running and an
  -- area of the right length, would be accepted, and packets are left
  pub start-would : (s : Record) (p : Running) (area : List ℕ) → sound s ≡ true → p.running ≡ true → length area ≡ area_len s
      → (sound_beside s p ≡ true)
      ↔ (((start_call s idle area (fresh_of p) (helpers_of s.sizes p) (stand_ins_of s.sizes p)).answer.refusal ≡ 0)
      × (p.carried < length (fresh_of p) * (s.sizes.d + s.sizes.r - 1)))
  -- so beside a store with no file none may run
  pub none_beside : (s : Record) (p : Running) → sound s ≡ true → p.running ≡ true → s.written ≡ false → sound_beside s p ≡ false
  -- a start that is accepted
  pub started-by : (s : Record) (p : Running) (area fresh helpers stand_ins : List ℕ) → (start_call s p area fresh helpers stand_ins).answer.refusal ≡ 0
      → StartedBy s area fresh helpers stand_ins (start_call s p area fresh helpers stand_ins)
  -- ---- the record by its parts
  pub idle-is : idle ≡ record { running = false; count = 0; carried = 0; fresh = replicate 32 0; helpers = replicate 256 0; stand_ins = replicate 256 0 }
  pub running-is : (fresh helpers stand_ins : List ℕ) (carried : ℕ)
      → running_by fresh helpers stand_ins carried
      ≡ record { running = true; count = length fresh; carried = carried; fresh = fit 32 fresh; helpers = fit 256 helpers; stand_ins = fit 256 stand_ins }
  pub carried-is : (p : Running) (m : ℕ)
      → with_carried p m ≡ record { running = p.running; count = p.count; carried = m; fresh = p.fresh; helpers = p.helpers; stand_ins = p.stand_ins }
  -- its lists are the first entries of its arrays: t fresh boards, t × d helpers, t × (r − t) stand-ins; all of them are "named in the repair"
  pub fresh-are : (p : Running) → fresh_of p ≡ take p.count p.fresh
  pub helpers-are : (z : Sizes) (p : Running) → helpers_of z p ≡ take (length (fresh_of p) * z.d) p.helpers
  pub stand-ins-are : (z : Sizes) (p : Running) → stand_ins_of z p ≡ take (length (fresh_of p) * (z.r - length (fresh_of p))) p.stand_ins
  pub named-are : (z : Sizes) (p : Running) → named_in z p ≡ fresh_of p ++ (helpers_of z p ++ stand_ins_of z p)
  -- "exactly t(d + r − 1) packets", of S × t × (2d + r − 1) bytes
  pub count-is : (z : Sizes) (t : ℕ) → packet_count z t ≡ t * (z.d + z.r - 1)
  pub length-is : (s : Record) (t : ℕ) → packets_len s t ≡ stripes s.sizes s.length * t * (2 * s.sizes.d + s.sizes.r - 1)
  -- an outcome without a packet area, and the record after a loss
  pub beside-parts : (p : Running) (o : StoreOutcome) → AsAlone p o (beside p o)
  pub lost-is : (s : Record) (p : Running) (board : ℕ)
      → lost_beside s p board ≡ pick (alls (p.running ∷ among (fresh_of p ++ (helpers_of s.sizes p ++ stand_ins_of s.sizes p)) board ∷ [])) idle p
