-- What the store's calls report is small: a repair and a move the bytes moved, a step at most t(d + r − 1) packets, a careful read at most n, every other call 0.
-- Assumes nothing.
use Prim.Native.Nat.{ℕ, suc, ◌+◌, ◌*◌, ◌-◌, ◌≤◌, ◌<◌}
use mathlib.Core.Path.{◌≡◌, refl, sym, subst}
use mathlib.Core.Bool.{Bool, true, false}
use mathlib.Core.Logic.{◌⊎◌, inl, inr}
use mathlib.Core.List.{List, [], ◌∷◌}
use native.Mathlib.Nat.{mul-le-mul, mul-le-mul_right}
use native.Mathlib.Omega.{arith}
use lib.Dec.{leb, eqb}
use lib.ListN.{length, drop}
use borrow.Author.Tests.{leb-true, leb-false}
use Rattle.lists.specs.Lists.{All}
use Rattle.lists.specs.Tests.{pick, alls, among}
use Rattle.lists.proofs.Boards.{below_all, all_among}
use Rattle.lists.proofs.Tests.{not-no, alls-hold}
use Rattle.sizes.specs.declared.Sizes.{Sizes}
use Rattle.std.specs.Prelude.{Ok, Err}
use Rattle.sizes.specs.declared.Refusal.TheVariants.{Size, Count, Idle}
use Rattle.sizes.specs.Refusals.{first, store_order, Check}
use Rattle.sizes.proofs.Legal.{legal-facts, α-most, stripes-least}
use Rattle.sizes.proofs.Orders.{clear-off}
use Rattle.board_spec.specs.Calls.{file_of}
use Rattle.store_spec.specs.Record.{Record, new_record, stripe_count}
use Rattle.beside_spec.specs.Running.{Running, fresh_of, helpers_of, stand_ins_of, packet_count}
use Rattle.store_spec.specs.Packets.{stand_ins_each, total, repair_packets}
use Rattle.store_spec.specs.Calls.{record_line, list_lines, repair_lines}
use Rattle.beside_spec.specs.Both.{Outcome, repair_lines_both, careful_lines_both, step_lines, left_of, step_last, step_on, set_up_both, move_lines_both}
use Rattle.store_spec.specs.Careful.{odd, odd_report, careful_file, careful_lines}
use Rattle.beside_spec.specs.BothCalls.{store_lines, store_done}
use Rattle.beside_spec.specs.Acting.{Call, write, lose, repair, read, edit, start, step, careful, move, State, act, output_of, packets_of_call}
use Rattle.store_spec.specs.Move.{move_packets, move_lines}
use Rattle.beside_spec.proofs.BothCalls.{by, act-is}
use Rattle.beside_spec.proofs.Beside.{alone, alone-busy, sound-beside, both_facts}
use Rattle.store_spec.proofs.Careful.{odd-named}
use Rattle.store_spec.proofs.Records.{sound-facts, repair-facts, careful-facts, move-facts}
use Rattle.store_spec.proofs.Real.{code-lengths}
use Rattle.store_spec.proofs.Repair.{moved-is}
use Rattle.store_spec.proofs.Move.{total-is}
use Rattle.archive_spec.proofs.Bounds.{Fits}

-- a refusal reports nothing, so only what a call does counts
settled-few : (s : Record) (p : Running) (area output packets : List ℕ) (done : Outcome) (t : Check) → (t ≡ Ok tt → Fits done.answer.reported)
    → Fits (by s p area output packets done t).answer.reported
settled-few s p area output packets done (Ok tt) h = h refl
settled-few s p area output packets done (Err x) h = omega arith

-- the stripes of a sound record are few
few-stripes : (s : Record) → s.capacity ≤ 4096 → stripe_count s ≤ s.capacity → stripe_count s ≤ 4096
few-stripes s h k = omega arith

-- the bytes that a repair moves
few-moved : (s : Record) (area fresh helpers stand_ins : List ℕ) → first store_order (repair_lines s (length area) fresh helpers stand_ins) ≡ Ok tt
    → Fits (total (repair_packets s area fresh helpers stand_ins))
few-moved s area fresh helpers stand_ins pass =
    let f = repair-facts s (length area) fresh helpers stand_ins pass in
    let g = sound-facts s f.is-sound in
    let l = legal-facts s.sizes g.is-legal in
    let e = moved-is s area fresh helpers stand_ins (length area) (code-lengths s.points s.sizes g.is-legal) f in
    let t = length fresh in
    let few : stripe_count s ≤ 4096 = few-stripes s g.cap-high (stripes-least s.sizes l s.length s.capacity g.fits) in
    let a : stripe_count s * t ≤ 4096 * t = mul-le-mul_right t few in
    let b : stripe_count s * t ≤ 131072 = omega (arith, a, f.few-fresh, l.enough, l.few) in
    let c : stripe_count s * t * (2 * s.sizes.d + s.sizes.r - 1) ≤ 131072 * 62 = mul-le-mul b (α-most s.sizes l) in
    omega (arith, e, c)

repair-few : (s : Record) (p : Running) (area fresh helpers stand_ins : List ℕ) → first store_order (repair_lines_both s p (length area) fresh helpers stand_ins) ≡ Ok tt
    → Fits (total (repair_packets s area fresh helpers stand_ins))
unfolding repair_lines_both repair_lines list_lines
repair-few s p area fresh helpers stand_ins h =
    few-moved s area fresh helpers stand_ins (alone-busy s p p.running (drop 1 (repair_lines s (length area) fresh helpers stand_ins)) refl h).0

-- the packets of a repair that runs
most-packets : (s : Record) (p : Running) (m mp : ℕ) → first store_order (step_lines s p m mp) ≡ Ok tt → packet_count s.sizes (length (fresh_of p)) ≤ 992
unfolding step_lines list_lines
most-packets s p m mp h =
    let off = clear-off (step_lines s p m mp) store_order h in
    let k = both_facts s p (off Size refl) in
    let l = legal-facts s.sizes (sound-facts s k.0).is-legal in
    let lists = (sound-beside s p k.1 (not-no p.running (off Idle refl))).0 in
    let fresh : List ℕ = fresh_of p in
    let helpers : List ℕ = helpers_of s.sizes p in
    let stand_ins : List ℕ = stand_ins_of s.sizes p in
    let tests : List Bool =
    leb 1 (length fresh) ∷ leb (length fresh) s.sizes.r ∷ eqb (length helpers) (length fresh * s.sizes.d) ∷ eqb (length stand_ins) (length fresh * stand_ins_each s fresh) ∷ [] in
    let count = alls-hold tests (not-no (alls tests) (clear-off (list_lines s fresh helpers stand_ins) store_order lists Count refl)) in
    few (length fresh) s.sizes.d s.sizes.r (leb-true (length fresh) s.sizes.r count.1.0) (omega (arith, l.enough, l.few)) (omega (arith, l.enough, l.few))
  where
    few : (t d r : ℕ) → t ≤ r → r ≤ 32 → d + r ≤ 32 → t * (d + r - 1) ≤ 992
    few t d r a b c =
        let x : t ≤ 32 = omega (arith, a, b) in
        let y : d + r - 1 ≤ 31 = omega (arith, c) in
        let m : t * (d + r - 1) ≤ 32 * 31 = mul-le-mul x y in
        omega (arith, m)

-- what a step reports
few-carried : (s : Record) (p : Running) (area packets : List ℕ) (allowance : ℕ) → packet_count s.sizes (length (fresh_of p)) ≤ 992
    → (t : Bool) → leb (left_of s p area packets) allowance ≡ t → Fits (pick t (step_last s p area packets) (step_on s p area packets allowance)).answer.reported
few-carried s p area packets allowance h true e = let n : packet_count s.sizes (length (fresh_of p)) - p.carried < 72057594037927936 = omega (arith, h) in n
few-carried s p area packets allowance h false e = omega (arith, h, leb-false (left_of s p area packets) allowance e)

-- what a careful read reports: none, or a board below n
careful-few : (s : Record) (p : Running) (area boards output : List ℕ) → first store_order (careful_lines_both s p area boards output) ≡ Ok tt
    → Fits (odd_report (odd s area (file_of (careful_file s area boards)) boards))
unfolding careful_lines_both careful_lines
careful-few s p area boards output h =
    let f = careful-facts s area boards output (alone s p (drop 1 (careful_lines s area boards output)) h) in
    let l = legal-facts s.sizes (sound-facts s f.is-sound).is-legal in
    go (odd-named s area (file_of (careful_file s area boards)) boards) l.few (below_all s.sizes.n boards f.named-below)
  where
    v : ℕ
    v = odd_report (odd s area (file_of (careful_file s area boards)) boards)

    go : (v ≡ 0) ⊎ ((i : ℕ) × (v ≡ suc i) × (among boards i ≡ true)) → s.sizes.n ≤ 32 → All (λ i. i < s.sizes.n) boards → Fits v
    go (inl e) m a = omega (arith, e)
    go (inr q) m a = omega (arith, m, q.1, all_among (λ i. i < s.sizes.n) boards q.0 a q.2)

-- the bytes that a move reports: those of a repair of one board
move-few : (s : Record) (p : Running) (area : List ℕ) (board point : ℕ) (helpers partners : List ℕ)
    → first store_order (move_lines_both s p (length area) board point helpers partners) ≡ Ok tt → Fits (total (move_packets s area board point helpers partners))
unfolding move_lines_both move_lines
move-few s p area board point helpers partners h =
    let f = move-facts s (length area) board point helpers partners
    (alone-busy s p p.running (drop 1 (move_lines s (length area) board point helpers partners)) refl h).0 in
    let g = sound-facts s f.is-sound in
    let l = legal-facts s.sizes g.is-legal in
    let few : stripe_count s ≤ 4096 = few-stripes s g.cap-high (stripes-least s.sizes l s.length s.capacity g.fits) in
    let c : stripe_count s * (2 * s.sizes.d + s.sizes.r - 1) ≤ 4096 * 62 = mul-le-mul few (α-most s.sizes l) in
    omega (arith, total-is s area board point helpers partners f, c)

done-few : (s : Record) (p : Running) (area : List ℕ) (c : Call) → first store_order (store_lines s p area c) ≡ Ok tt → Fits (store_done s p area c).answer.reported
unfolding store_lines store_done
done-few s p area (write file) h = omega arith
done-few s p area (lose board) h = omega arith
done-few s p area (repair fresh helpers stand_ins) h = repair-few s p area fresh helpers stand_ins h
done-few s p area (read boards output) h = omega arith
done-few s p area (edit offset bytes boards) h = omega arith
done-few s p area (start fresh helpers stand_ins) h = omega arith
done-few s p area (step allowance packets) h =
    few-carried s p area packets allowance (most-packets s p (length area) (length packets) h) (leb (left_of s p area packets) allowance) refl
done-few s p area (careful boards output) h = careful-few s p area boards output h
done-few s p area (move board point helpers partners) h = move-few s p area board point helpers partners h

pub store-fits : (w : State) (c : Call) → Fits (act w c).answer.reported
store-fits w c =
    subst (λ (o : Outcome). Fits o.answer.reported) (sym (act-is w c))
    (settled-few w.kept w.running w.area (output_of c) (packets_of_call c) (store_done w.kept w.running w.area c)
    (first store_order (store_lines w.kept w.running w.area c)) (λ h. done-few w.kept w.running w.area c h))

-- set up reports 0
pub set-up-fits : (s : Record) (p : Running) (z : Sizes) (xs : List ℕ) (c : ℕ) → Fits (set_up_both s p z xs c).answer.reported
unfolding set_up_both
set-up-fits s p z xs c = settled-few s p [] [] [] _ (first store_order (record_line (new_record z xs c) ∷ [])) (λ h. omega arith)
