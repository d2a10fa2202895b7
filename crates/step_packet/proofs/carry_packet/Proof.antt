-- `step_packet::carry_packet` meets its contract: the kind of the packet, by its number.
-- Assumes nothing.
use mathlib.Core.Path.{◌≡◌, ap, ◌∙◌}
use Prim.Native.Nat.{◌+◌, ◌-◌, ◌*◌, ◌<◌, ◌≤◌}
use lib.ListN.{length}
use Rattle.lists.specs.Lists.{put}
use Rattle.sizes.proofs.Legal.{Legal, legal-facts}
use Rattle.step_laws.proofs.Now.{third-count, packet-first, packet-second, packet-third}
use Rattle.step_laws.proofs.Facts.{helpers-served, stand-ins-served, helpers-each, place-first, place-later, first_fits, later-fits, helpers-before}
use borrow.Author.Rules.{rules}
use native.Mathlib.Omega.{arith}
use Rattle.step_packet.proofs.carry_packet.Statement.{statement}
use Rattle.step_packet.proofs.carry_packet.Tie as tie

-- the places
abbrev st-known : tie.After-slice_known-1 → tie.Start
st-known c = c.before.before.before.before.before.before.before

abbrev st-helper : tie.After-carry_helper-arg-1 → tie.Start
st-helper c = st-known c.before.before

abbrev st-else : tie.Else-q-h → tie.Start
st-else c = st-known c.before

abbrev helper-end : tie.After-slice_known-then-q-h-1 → tie.After-carry_helper
helper-end c = c.before.before

abbrev stand-in-end : tie.After-slice_known-then-p-e-1 → tie.After-carry_stand_in
stand-in-end c = c.before.before

abbrev exchange-end : tie.After-slice_known-2-1 → tie.After-carry_exchange
exchange-end c = c.before.before

facts : (c : tie.Start) → Legal c.args.sizes
facts c = legal-facts _ c.requires.0

-- the first kind
first : (c : tie.After-carry_helper-arg-1) → let a = (st-helper c).args in a.q < length a.fresh.now * a.sizes.d
first c = omega (arith, c.before.if-q-h.true, (st-helper c).requires.4.helper-count)

first-room : (c : tie.After-carry_helper-arg-1) → let a = (st-helper c).args in a.at + 2 * a.stripes ≤ length a.packets.now
first-room c =
    let s = st-helper c in
    let a = s.args in
    let z = a.sizes in
    omega (
      arith,
      s.requires.9,
      s.requires.10,
      place-first z a.stripes (length a.fresh.now) a.q (first c),
      first_fits a.stripes (length a.fresh.now) z.d z.r a.q (facts s).some-fresh (first c),
    )

carry-helper-requires : tie.Need-carry_helper-requires
carry-helper-requires c κs =
    let s = st-helper c in
    let a = s.args in
    let p = s.requires in (
      p.0,
      p.1,
      p.2,
      p.3,
      p.5,
      p.6,
      helpers-served a.sizes a.fresh.now a.helpers.now a.standins.now p.4,
      p.7,
      c.before.if-q-h.true,
      first-room c,
    )

returns : tie.Need-returns-then-q-h
returns c =
    let s = st-helper (helper-end c).before in
    let a = s.args in
    (helper-end c).carry_helper.ensures
    ∙ ap (put a.packets.now a.at)
    (packet-first a.sizes a.points.now a.capacity a.stripes a.fresh.now a.helpers.now a.standins.now a.area.now a.q a.packets.now
    (first (helper-end c).before))

-- the others
later : (c : tie.Else-q-h) → let a = (st-else c).args in length a.fresh.now * a.sizes.d ≤ a.q
later c = omega (arith, c.if-q-h.false, (st-else c).requires.4.helper-count)

place : (c : tie.Else-q-h) → let a = (st-else c).args in a.at ≡ (a.q + length a.fresh.now * a.sizes.d) * a.stripes
place c = let a = (st-else c).args in (st-else c).requires.9 ∙ place-later a.sizes a.stripes (length a.fresh.now) a.q (later c)

later-room : (c : tie.Else-q-h) → let a = (st-else c).args in a.at + a.stripes ≤ length a.packets.now
later-room c =
    let s = st-else c in
    let a = s.args in
    let z = a.sizes in
    omega (arith, s.requires.10, place c, later-fits a.stripes (length a.fresh.now) z.d z.r a.q (facts s).some-fresh s.requires.8)

abbrev else1-at-carry-stand-in-arg : tie.After-carry_stand_in-arg-1 → tie.Else-q-h
else1-at-carry-stand-in-arg c = c.before.before

carry-stand-in-requires : tie.Need-carry_stand_in-requires
carry-stand-in-requires c κs =
    let s = st-else (else1-at-carry-stand-in-arg c) in
    let a = s.args in
    let p = s.requires in (
      p.0,
      p.1,
      p.2,
      p.3,
      p.5,
      p.6,
      p.4.few-fresh,
      stand-ins-served a.sizes a.fresh.now a.helpers.now a.standins.now p.4,
      p.7,
      c.before.if-p-e.true,
      later-room (else1-at-carry-stand-in-arg c),
    )

returns-2 : tie.Need-returns-then-p-e
returns-2 c =
    let t = (stand-in-end c).before.before in
    let s = st-else t.before in
    let a = s.args in
    (stand-in-end c).carry_stand_in.ensures
    ∙ ap (put a.packets.now a.at)
    (packet-second a.sizes a.points.now a.capacity a.stripes a.fresh.now a.helpers.now a.standins.now a.area.now a.q (length a.helpers.now) a.packets.now
    s.requires.4.helper-count (omega (arith, t.before.if-q-h.false)) (omega (arith, t.if-p-e.true, s.requires.4.stand-in-count)))

exchange-number : (c : tie.Else-p-e) → let a = (st-else c.before).args in let t = length a.fresh.now in
    a.q - length a.helpers.now - length a.standins.now < t * (t - 1)
exchange-number c =
    let s = st-else c.before in
    let a = s.args in
    let f = s.requires.4 in
    omega (
      arith,
      f.helper-count,
      f.stand-in-count,
      third-count (length a.fresh.now) a.sizes.d a.sizes.r a.q f.some-fresh f.few-fresh s.requires.8 (later c.before)
          (omega (arith, c.if-p-e.false, f.helper-count, f.stand-in-count)),
    )

carry-exchange-requires : tie.Need-carry_exchange-requires
carry-exchange-requires c κs =
    let e = c.before.before in
    let s = st-else e in
    let a = s.args in
    let p = s.requires in
    let f = facts s in (
      p.0,
      p.1,
      p.2,
      p.3,
      omega (arith, p.5, p.6),
      omega (arith, p.4.few-fresh, f.enough, f.few),
      helpers-served a.sizes a.fresh.now a.helpers.now a.standins.now p.4,
      helpers-each a.sizes a.fresh.now a.helpers.now a.standins.now p.4,
      exchange-number c.before,
      omega (arith, place e, helpers-before a.stripes (length a.fresh.now) a.sizes.d a.q (later e)),
      later-room e,
    )

returns-3 : tie.Need-returns
returns-3 c =
    let t = (exchange-end c).before.before in
    let s = st-else t.before in
    let a = s.args in
    (exchange-end c).carry_exchange.ensures
    ∙ ap (put a.packets.now a.at)
    (packet-third a.sizes a.points.now a.capacity a.stripes a.fresh.now a.helpers.now a.standins.now a.area.now a.q
    (length a.helpers.now) (length a.standins.now) a.packets.now s.requires.4.helper-count s.requires.4.stand-in-count (omega (arith, t.before.if-q-h.false)) (omega (arith, t.if-p-e.false)))

pub carry_packet_spec : {M : Type 1} → statement M
carry_packet_spec =
    tie.close
    (tie.spec
    carry-helper-requires
    (λ c. search rules)
    returns
    carry-stand-in-requires
    (λ c. search rules)
    returns-2
    carry-exchange-requires
    (λ c. search rules)
    returns-3)
