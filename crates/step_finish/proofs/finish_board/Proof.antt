-- `step_finish::finish_board` meets its contract: the runs of helpers and of stand-ins of the a-th fresh board, and its place in the area.
-- Assumes nothing.
use mathlib.Core.Path.{◌≡◌, ap, ◌∙◌}
use mathlib.Core.Bool.{true}
use mathlib.Core.List.{List, [], ◌∷◌, ◌++◌}
use Prim.Native.Nat.{ℕ, ◌+◌, ◌-◌, ◌*◌, ◌<◌}
use lib.ListN.{length, get_or, take, drop}
use Rattle.lists.specs.Lists.{piece}
use Rattle.lists.specs.Tests.{below, different}
use Rattle.lists.proofs.Pieces.{part-piece}
use Rattle.sizes.proofs.Legal.{Legal, legal-facts}
use Rattle.repair_rows.specs.Steps.{others_at}
use Rattle.step_laws.proofs.Facts.{fresh-low, fresh-below, helpers-long, stand-ins-long, parties-below, parties-different}
use Rattle.step_laws.proofs.Held.{Held, held_in, held-long}
use Rattle.step_finish.proofs.Boards.{Runs, runs, share-put}
use borrow.Author.Rules.{rules}
use native.Mathlib.Omega.{arith}
use Rattle.step_finish.proofs.finish_board.Statement.{statement}
use Rattle.step_finish.proofs.finish_board.Tie as tie

-- the places
abbrev st-w : tie.After-struct_known-1 → tie.Start
st-w c = c.before.before.before.before.before.before.before.before

abbrev st-e : tie.After-struct_known-3-1 → tie.Start
st-e c = st-w c.before.before

abbrev st-at : tie.After-shared_slice_known-7-1 → tie.Start
st-at c = st-e c.before

abbrev st_1 : tie.After-share_of-arg-1 → tie.Start
st_1 c = st-at c.before

abbrev st_2 : tie.After-share_of-arg-2-1 → tie.Start
st_2 c = st_1 c.before

abbrev st-arg : tie.After-share_of-arg-3-1 → tie.Start
st-arg c = st_2 c.before

abbrev share-end : tie.After-slice_known-2-1 → tie.After-share_of
share-end c = c.before.before

abbrev st-end : tie.After-slice_known-2-1 → tie.Start
st-end c = st-arg (share-end c).before

facts : (c : tie.Start) → Legal c.args.sizes
facts c = legal-facts _ c.requires.0

-- the fresh board, and where its bytes lie
abbrev board : tie.Start → ℕ
board c = get_or c.args.fresh.now c.args.a 0

low : (c : tie.Start) → board c < c.args.sizes.n
low c = let a = c.args in fresh-low a.sizes a.fresh.now a.helpers.now a.standins.now c.requires.4 a.a c.requires.9

held_by : (c : tie.Start) (j : ℕ) → j < c.args.sizes.n → Held c.args.sizes c.args.capacity c.args.stripes j
held_by c j h = let a = c.args in held_in a.sizes (facts c) a.capacity a.stripes j c.requires.5 c.requires.6 h

held : (c : tie.Start) → Held c.args.sizes c.args.capacity c.args.stripes (board c)
held c = held_by c (board c) (low c)

-- there is a board of its place's number too
own : (c : tie.Start) → Held c.args.sizes c.args.capacity c.args.stripes c.args.a
own c = let f = facts c in held_by c c.args.a (omega (arith, c.requires.9, c.requires.4.few-fresh, f.enough))

-- where its runs of helpers and of stand-ins end
run_ends : (c : tie.Start) → let a = c.args in Runs a.sizes.d (a.sizes.r - length a.fresh.now) a.a (length a.helpers.now) (length a.standins.now)
run_ends c = let a = c.args in runs a.sizes (facts c) a.fresh.now a.helpers.now a.standins.now c.requires.4 a.a c.requires.9

-- the runs
abbrev helper-run : tie.Start → List ℕ
helper-run c = let a = c.args in take (a.a * a.sizes.d + a.sizes.d - a.a * a.sizes.d) (drop (a.a * a.sizes.d) a.helpers.now)

abbrev stand-in-run : tie.Start → List ℕ
stand-in-run c =
    let a = c.args in
    let e = a.sizes.r - length a.fresh.now in
    take (a.a * e + e - a.a * e) (drop (a.a * e) a.standins.now)

helpers-are : (c : tie.Start) → let a = c.args in (helper-run c ≡ piece a.sizes.d a.a a.helpers.now) × (length (helper-run c) ≡ a.sizes.d)
helpers-are c =
    let a = c.args in
    let e = part-piece a.sizes.d a.a a.helpers.now in
    (e, ap length e ∙ helpers-long a.sizes a.fresh.now a.helpers.now a.standins.now c.requires.4 a.a c.requires.9)

stand-ins-are : (c : tie.Start) → let a = c.args in let e = a.sizes.r - length a.fresh.now in
    (stand-in-run c ≡ piece e a.a a.standins.now) × (length (stand-in-run c) ≡ e)
stand-ins-are c =
    let a = c.args in
    let e = part-piece (a.sizes.r - length a.fresh.now) a.a a.standins.now in
    (e, ap length e ∙ stand-ins-long a.sizes a.fresh.now a.helpers.now a.standins.now c.requires.4 a.a c.requires.9)

-- what holds of the runs by places holds of those that are lent
party-with : (c : tie.Start) (P : List ℕ → List ℕ → Type 0) → let a = c.args in
    P (piece a.sizes.d a.a a.helpers.now) (piece (a.sizes.r - length a.fresh.now) a.a a.standins.now) → P (helper-run c) (stand-in-run c)
party-with c P h = rw ((helpers-are c).0, (stand-ins-are c).0) h

share-of-requires : tie.Need-share_of-requires
share-of-requires c κs =
    let s = st-arg c in
    let a = s.args in
    let z = a.sizes in
    let p = s.requires in
    let l = p.4 in
    let t : ℕ = length a.fresh.now in (
      p.0,
      p.1,
      p.2,
      p.3,
      omega (arith, p.5, p.6),
      p.9,
      (helpers-are s).1,
      omega (arith, (stand-ins-are s).1, l.few-fresh),
      fresh-below z a.fresh.now a.helpers.now a.standins.now l,
      party-with s (λ hs ss. below z.n (hs ++ (ss ++ others_at a.fresh.now a.a) ++ (board s ∷ [])) ≡ true)
          (parties-below z a.fresh.now a.helpers.now a.standins.now l a.a p.9),
      party-with s (λ hs ss. different (hs ++ (ss ++ others_at a.fresh.now a.a) ++ (board s ∷ [])) ≡ true)
          (parties-different z a.fresh.now a.helpers.now a.standins.now l a.a p.9),
      p.7,
      held-long z a.capacity a.stripes (board s) a.area.now (held s) p.8,
    )

returns : tie.Need-returns
returns c =
    let s = st-end c in
    let a = s.args in
    share-put a.sizes (facts s) a.points.now a.capacity a.stripes a.fresh.now a.helpers.now a.standins.now a.packets.now a.area.now a.a
    (helper-run s) (stand-in-run s) _ (helpers-are s).0 (stand-ins-are s).0 (stand-ins-are s).1 (share-end c).share_of.ensures

abbrev st-at-unread : tie.After-shared_slice_known-7-1-unread → tie.Start
st-at-unread c = st-e c.before

pub finish_board_spec : {M : Type 1} → statement M
finish_board_spec =
    tie.close
    (tie.spec
    (λ c. let f = facts (st-w c) in omega (arith, f.enough, f.few))
    (λ c. let f = facts (st-w c.before) in omega (arith, f.enough, f.few))
    (λ c. let f = facts (st-w c.before) in omega (arith, f.some-fresh))
    (λ c. omega (arith, (st-e c).requires.4.few-fresh))
    (λ c. let r = run_ends (st-e c) in omega (arith, r.helpers-end, r.helpers-few))
    (λ c. let r = run_ends (st-e c) in omega (arith, r.helpers-end, r.helpers-few))
    (λ c. let r = run_ends (st-e c) in omega (arith, r.stand-ins-end, r.stand-ins-few))
    (λ c. let r = run_ends (st-e c) in omega (arith, r.stand-ins-end, r.stand-ins-few))
    (λ c. search rules)
    (λ c. omega (arith, (st-at-unread c).requires.9))
    (λ c. let h = held (st-at c) in omega (arith, h.few))
    (λ c. let h = held (st-at c) in omega (arith, h.ends, (own (st-at c)).ends, h.all))
    (λ c. let h = held (st-at c) in omega (arith, h.used, h.few))
    (λ c. let h = held (st-at c) in omega (arith, h.ends, (own (st-at c)).ends, h.used, h.all))
    (λ c. let r = run_ends (st-at c) in omega (arith, r.helpers-end, r.helpers-few))
    (λ c. search rules)
    (λ c. search rules)
    (λ c. let r = run_ends (st-at c) in omega (arith, r.helpers-end))
    (λ c. let r = run_ends (st_1 c) in omega (arith, r.stand-ins-end, r.stand-ins-few))
    (λ c. search rules)
    (λ c. search rules)
    (λ c. let r = run_ends (st_1 c) in omega (arith, r.stand-ins-end))
    (λ c. search rules)
    (λ c. search rules)
    (λ c. let h = held (st_2 c) in omega (arith, h.ends, (own (st_2 c)).ends, h.used, (st_2 c).requires.8))
    share-of-requires
    (λ c. search rules)
    returns)
