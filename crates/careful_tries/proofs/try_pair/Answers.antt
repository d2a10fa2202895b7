-- `careful_tries::try_pair` meets its contract: the k boards' agreement, and what of the two left out holds its share.
-- Assumes nothing.
use Rattle.std.proofs.Common.{◌≡◌, true, false, not, refl, sym, ap, subst, ◌∙◌, ◌+◌, ◌≤◌, ◌<◌, length, get_or, ℕ, Bool, List, arith, rules}
use borrow.Author.Tests.{not-true}
use mathlib.Core.Option.{Option}
use Rattle.std.specs.Prelude.{Ok, Err, is_err}
use Rattle.lists.specs.Lists.{Bytes}
use Rattle.lists.specs.Tests.{given}
use Rattle.lists.proofs.Alls.{all_of, all-at}
use Rattle.lists.proofs.Boards.{below_all}
use Rattle.lists.proofs.Tests.{true-false}
use Rattle.sizes.specs.declared.Refusal.TheVariants.{Disagree}
use Rattle.sizes.specs.Refusals.{Check, ◌when◌}
use Rattle.sizes.proofs.Legal.{legal-facts}
use Rattle.mbcr.specs.Demand2.{Named}
use Rattle.board_spec.specs.Calls.{file_of}
use Rattle.store_spec.specs.Record.{Record}
use Rattle.store_spec.specs.Calls.{file_held}
use Rattle.store_spec.specs.Careful.{holds_share, odd, qualifying, odd_report}
use Rattle.store_spec.proofs.Records.{Sound, sound-facts, sound-points}
use Rattle.record.specs.Records.{record_of}
use Rattle.decode_stripe.specs.Steps.{Asked}
use Rattle.line_checks.specs.Steps.{asked}
use Rattle.careful_pairs.specs.Steps.{leaving_pair, found_of, odd_of}
use Rattle.store_holds.proofs.Stripes.{stripes-few}
use Rattle.careful_tries.specs.Steps.{Careful}
use Rattle.careful_tries.proofs.Found.{either, pair-named, none-held, pair-told, refused_none, passed-some}
use Rattle.careful_tries.proofs.try_pair.Goals as goal

-- a board of the list
low : (s : Record) (area boards : List ℕ) → Careful s boards area → (i : ℕ) → i < length boards → get_or boards i 0 < s.sizes.n
low s area boards h i l = all-at (λ x. x < s.sizes.n) 0 boards (below_all s.sizes.n boards h.named.1) i l

-- the check of the k boards is refused, or passed
clash : (b : Bool) (r : Check) → r ≡ asked (Disagree when not b) → is_err r ≡ true → b ≡ false
clash b (Ok t) e f = absurd (true-false f refl)
clash b (Err x) e f = refused_none b (sym e)

agree : (b : Bool) (r : Check) → r ≡ asked (Disagree when not b) → is_err r ≡ false → b ≡ true
agree b (Ok t) e f = passed-some b (sym e)
agree b (Err x) e f = absurd (true-false refl f)

-- the boards that are read
module _ (s : Record) (area boards : List ℕ) (h : Careful s boards area) (p : ℕ) (room : p + 2 ≤ length boards) (bytes : Bytes area)
    (chosen : List ℕ) (are : chosen ≡ leaving_pair p boards) where
  good : Sound s
  good = sound-facts s h.is-sound

  named : Named s.sizes s.sizes.k chosen
  named = subst (λ (l : List ℕ). Named s.sizes s.sizes.k l) (sym are) (pair-named s area good h.area-is bytes boards h.named p room)

  asks : Asked s.sizes s.points chosen
  asks = record { sized = good.is-legal; distinct = sound-points s good; counted = named.0; known = named.1; unlike = named.2 }

  -- the file that they hold
  abbrev file : Option (List ℕ)
  file = file_held s area (leaving_pair p boards)

  abbrev there : Bool
  there = given (file_held s area chosen)

  abbrev attempted : Bool
  attempted = given (qualifying s area boards file)

  same-file : there ≡ given file
  same-file = ap (λ (l : List ℕ). given (file_held s area l)) are

  same-holds : (i : ℕ) → holds_share s area (file_of (file_held s area chosen)) i ≡ holds_share s area (file_of file) i
  same-holds i = ap (λ (l : List ℕ). holds_share s area (file_of (file_held s area l)) i) are

  -- where they hold none
  not-held : there ≡ false → false ≡ attempted
  not-held fails = none-held s area boards p (sym same-file ∙ fails)

  -- what the two tell, where they hold one
  where-held : (x y found : Bool) (o : ℕ) → (there ≡ true → x ≡ holds_share s area (file_of (file_held s area chosen)) (get_or boards p 0))
      → (there ≡ true → y ≡ holds_share s area (file_of (file_held s area chosen)) (get_or boards (p + 1) 0))
      → found ≡ found_of x y → o ≡ odd_of x y (get_or boards p 0) (get_or boards (p + 1) 0) → there ≡ true
      → (found ≡ attempted) × (found ≡ true → o ≡ odd_report (odd s area (file_of file) boards))
  where-held x y found o hx hy ef eo holds =
      let t = pair-told s area good h.area-is bytes boards h.named p room (sym same-file ∙ holds) x y (hx holds ∙ same-holds (get_or boards p 0)) (hy holds ∙ same-holds (get_or boards (p + 1) 0)) in
      (ef ∙ t.0, (λ e. eo ∙ t.1 (sym ef ∙ e)))

pub leave_pair-requires : goal.leave_pair-requires
leave_pair-requires c =
    let f = legal-facts _ (sound-facts (record_of c.args.kept) c.requires.0.is-sound).is-legal in
    (c.requires.2, omega (arith, c.requires.3, f), omega (arith, c.requires.3, c.requires.0.named.0))

pub fill_tables-requires : goal.fill_tables-requires
fill_tables-requires c =
    let a = c.args in
    let bytes : Bytes a.area.now = all_of (λ b. b < 256) 0 a.area.now (λ i h. omega (arith, c.type_inv.area i)) in
    let long : length a.kept.points ≡ 32 = search rules in
    (asks (record_of a.kept) a.area.now a.boards.now c.requires.0 a.p c.requires.2 bytes _ c.leave_pair.ensures, long, c.requires.4)

pub hold_two-held-requires : goal.hold_two-held-requires
hold_two-held-requires c =
    let a = c.args in
    let s = record_of a.kept in
    let bytes : Bytes a.area.now = all_of (λ b. b < 256) 0 a.area.now (λ i h. omega (arith, c.type_inv.area i)) in (
      c.requires.0.is-sound,
      c.requires.1,
      asks s a.area.now a.boards.now c.requires.0 a.p c.requires.2 bytes _ c.leave_pair.ensures,
      low s a.area.now a.boards.now c.requires.0 a.p (omega (arith, c.requires.2)),
      low s a.area.now a.boards.now c.requires.0 (a.p + 1) (omega (arith, c.requires.2)),
      c.requires.0.area-is,
      c.fill_tables.ensures,
    )

pub told-told-requires : goal.told-told-requires
told-told-requires c =
    let a = c.args in
    let s = record_of a.kept in
    let f = (legal-facts _ (sound-facts s c.requires.0.is-sound).is-legal).few in
    let x = low s a.area.now a.boards.now c.requires.0 a.p (omega (arith, c.requires.2)) in
    let y = low s a.area.now a.boards.now c.requires.0 (a.p + 1) (omega (arith, c.requires.2)) in
    (omega (arith, f, x, y), omega (arith, f, x, y))

-- neither of the two holds a share
pub returns-then-not-told-clause-found_value : goal.returns-then-not-told-clause-found_value
returns-then-not-told-clause-found_value c =
    let a = c.args in
    let s = record_of a.kept in
    let bytes : Bytes a.area.now = all_of (λ b. b < 256) 0 a.area.now (λ i h. omega (arith, c.type_inv.area i)) in
    let held = c.hold_two-held in
    let told = c.told-told in
    either (given (file_held s a.area.now c.leave_pair.new.out))
    (λ e. (where-held s a.area.now a.boards.now c.requires.0 a.p c.requires.2 bytes _ c.leave_pair.ensures held.result.first held.result.second told.result.found told.result.odd
    held.ensures.first_value held.ensures.second_value told.ensures.0 told.ensures.1 e).0)
    (λ e. not-true told.result.found c.if-not-told.true ∙ not-held s a.area.now a.boards.now c.requires.0 a.p c.requires.2 bytes _ c.leave_pair.ensures e)

pub check_agrees-requires : goal.check_agrees-requires
check_agrees-requires c =
    let a = c.args in
    let s = record_of a.kept in
    let bytes : Bytes a.area.now = all_of (λ b. b < 256) 0 a.area.now (λ i h. omega (arith, c.type_inv.area i)) in
    let g = sound-facts s c.requires.0.is-sound in (
      asks s a.area.now a.boards.now c.requires.0 a.p c.requires.2 bytes _ c.leave_pair.ensures,
      c.requires.1,
      g.cap-high,
      omega (arith, c.requires.1, stripes-few s g),
      c.requires.0.area-is,
      c.fill_tables.ensures,
    )

-- the k boards hold no file
pub returns-then-is_err-clause-found_value : goal.returns-then-is_err-clause-found_value
returns-then-is_err-clause-found_value c =
    let a = c.args in
    let s = record_of a.kept in
    let bytes : Bytes a.area.now = all_of (λ b. b < 256) 0 a.area.now (λ i h. omega (arith, c.type_inv.area i)) in
    not-held s a.area.now a.boards.now c.requires.0 a.p c.requires.2 bytes _ c.leave_pair.ensures
    (clash (given (file_held s a.area.now c.leave_pair.new.out)) _ c.check_agrees.ensures (sym c.is_err.ensures.value ∙ c.if-is_err.true))

-- they hold one
pub returns-clause-found_value : goal.returns-clause-found_value
returns-clause-found_value c =
    let a = c.args in
    let s = record_of a.kept in
    let bytes : Bytes a.area.now = all_of (λ b. b < 256) 0 a.area.now (λ i h. omega (arith, c.type_inv.area i)) in
    let held = c.hold_two-held in
    let told = c.told-told in
    (where-held s a.area.now a.boards.now c.requires.0 a.p c.requires.2 bytes _ c.leave_pair.ensures held.result.first held.result.second told.result.found told.result.odd
    held.ensures.first_value held.ensures.second_value told.ensures.0 told.ensures.1
    (agree (given (file_held s a.area.now c.leave_pair.new.out)) _ c.check_agrees.ensures (sym c.is_err.ensures.value ∙ c.if-is_err.false))).0

pub returns-clause-odd_value : goal.returns-clause-odd_value
returns-clause-odd_value c =
    let a = c.args in
    let s = record_of a.kept in
    let bytes : Bytes a.area.now = all_of (λ b. b < 256) 0 a.area.now (λ i h. omega (arith, c.type_inv.area i)) in
    let held = c.hold_two-held in
    let told = c.told-told in
    (where-held s a.area.now a.boards.now c.requires.0 a.p c.requires.2 bytes _ c.leave_pair.ensures held.result.first held.result.second told.result.found told.result.odd
    held.ensures.first_value held.ensures.second_value told.ensures.0 told.ensures.1
    (agree (given (file_held s a.area.now c.leave_pair.new.out)) _ c.check_agrees.ensures (sym c.is_err.ensures.value ∙ c.if-is_err.false))).1
