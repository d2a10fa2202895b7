-- `check_step::check_step` meets its contract: past three checks the last one's answer is the call's.
-- Assumes nothing.
use Rattle.std.proofs.Common.{◌≡◌, ℕ, Bool, true, false, not, List, [], ◌∷◌, length, refl, sym, ap, ◌∙◌}
use Rattle.std.specs.Prelude.{eqb, Err}
use Rattle.lists.specs.Lists.{concat}
use Rattle.lists.specs.Tests.{pick, alls}
use Rattle.sizes.specs.declared.Refusal.TheVariants.{Size, Area, Idle}
use Rattle.sizes.specs.Refusals.{Check, Line, ◌when◌, first, store_order}
use Rattle.store_spec.specs.Record.{Record, area_len}
use Rattle.store_spec.specs.Calls.{empty_line}
use Rattle.beside_spec.specs.Running.{Running, fresh_of, packets_len}
use Rattle.beside_spec.specs.Both.{both_line, step_lines}
use Rattle.board_lines.proofs.Given.{chain}
use Rattle.board_lines.proofs.Chain.{thens, grouped, goes-on, ends}
use Rattle.record.specs.Records.{record_of, running_in}
use Rattle.check_begin.specs.Steps.{area_lines}
use Rattle.check_begin.proofs.Facts.{area-facts}
use Rattle.check_step.proofs.check_step.Goals as goal

-- AREA of one slice and then of the other is AREA of both
two-areas : (a b : Bool) (rest : Check) → pick (not a) (Err Area) (pick (not b) (Err Area) rest) ≡ pick (not (alls (a ∷ b ∷ []))) (Err Area) rest
two-areas true true rest = refl
two-areas true false rest = refl
two-areas false b rest = refl

module _ (s : Record) (p : Running) (m k : ℕ) where
  -- whether the packet area is as long as a repair that runs asks
  abbrev fits : Bool
  fits = pick p.running (eqb k (packets_len s (length (fresh_of p)))) true

  -- the lines that each check asks, and those after it
  abbrev idles : List (List Line)
  idles = (Idle when not p.running ∷ []) ∷ []

  abbrev empties : List (List Line)
  empties = (empty_line s ∷ []) ∷ idles

  abbrev packets : List (List Line)
  packets = (Area when not fits ∷ []) ∷ empties

  whole : thens (area_lines s p m ∷ packets) ≡ first store_order (step_lines s p m k)
  unfolding step_lines
  whole =
      grouped (area_lines s p m ∷ packets)
      ∙ ap (λ (c : Check). pick (both_line s p).applies (Err Size) c) (two-areas (eqb m (area_len s)) fits (chain (concat empties)))

pub check_packets-requires : goal.check_packets-requires
check_packets-requires c =
    let f = area-facts _ _ _ (sym c.check_area.ensures ∙ c.in_ok-check_area.was) in
    (f.is-sound, f.is-beside)

pub returns : goal.returns
returns c =
    let a = c.args in
    let on-packets = goes-on (whole (record_of a.kept) (running_in a.running) a.lent a.packets) c.check_area.ensures c.in_ok-check_area.was in
    let on-empty = goes-on on-packets c.check_packets.ensures c.in_ok-check_packets.was in
    let on-idle = goes-on on-empty c.check_written.ensures c.in_ok-check_written.was in
    ends on-idle c.check_idle.ensures
