-- What a call changes in the two records, whatever the call.
-- Assumes nothing.
use Prim.Native.Nat.{ℕ, zero, suc, ◌<◌}
use mathlib.Core.Path.{◌≡◌, refl, sym, ◌∙◌, ap, subst}
use mathlib.Core.Bool.{Bool, true, false}
use mathlib.Core.List.{List, [], ◌∷◌, ◌++◌}
use native.Mathlib.Omega.{arith}
use lib.Dec.{leb, eqb}
use lib.ListN.{length, length-set, drop, set}
use Rattle.lists.specs.Tests.{pick, alls, among}
use Rattle.std.specs.Prelude.{Ok, Err}
use Rattle.sizes.specs.Sizing.{max_boards}
use Rattle.sizes.specs.Refusals.{Said, first, store_order, said, number, Check}
use Rattle.sizes.proofs.Laws.{number-low}
use Rattle.store_spec.specs.Record.{Record, turn_on}
use Rattle.store_spec.specs.Calls.{list_lines, repair_lines}
use Rattle.beside_spec.specs.Running.{Running, idle, running_by, fresh_of, named_in}
use Rattle.beside_spec.specs.Both.{Outcome, repair_lines_both, left_of, step_last, step_on}
use Rattle.beside_spec.proofs.Beside.{alone-busy}
use Rattle.store_spec.proofs.Records.{repair-facts, sound-facts}
use Rattle.sizes.proofs.Legal.{legal-facts}
use Rattle.lists.specs.Lists.{All, Bytes}
use Rattle.lists.proofs.Alls.{all-imp, all_left, all_right, zeros-bytes}
use Rattle.lists.proofs.Boards.{below_all}
use Rattle.lists.proofs.Pieces.{length-fit, fit-bytes}
use Rattle.beside_spec.specs.BothCalls.{store_lines, store_done}
use Rattle.beside_spec.proofs.BothCalls.{by, act-is, done-accepted}
use Rattle.beside_spec.specs.Acting.{Call, write, lose, repair, read, edit, start, step, careful, move, State, act, output_of, packets_of_call}
use Rattle.beside_spec.specs.HandedLaws.{new_point, set_points, Arrays, HandedLaws}
use borrow.Author.Tests.{ne_eqb, eq-eqb}
use Rattle.sizes.specs.declared.Refusal.{Refusal}
use mathlib.Core.Logic.{◌≢◌}

-- ---- new points

pub no-point : (call : Call) (x : Refusal) → new_point call (said (Err x)) ≡ []
no-point (write file) x = refl
no-point (lose board) x = refl
no-point (repair fresh helpers stand_ins) x = refl
no-point (read boards output) x = refl
no-point (edit offset bytes boards) x = refl
no-point (start fresh helpers stand_ins) x = refl
no-point (step allowance packets) x = refl
no-point (careful boards output) x = refl
no-point (move board point helpers partners) x = rw (ne_eqb (number x) 0 (λ e. omega (arith, number-low x))) refl

one-new : (board point : ℕ) (helpers partners : List ℕ) (a : Said) → a.refusal ≡ 0 → new_point (move board point helpers partners) a ≡ (board, point) ∷ []
one-new board point helpers partners a e = rw (eq-eqb a.refusal 0 e) refl

pub off-move : (c : Call) (a : Said) → a.refusal ≢ 0 → new_point c a ≡ []
off-move (write file) a h = refl
off-move (lose board) a h = refl
off-move (repair fresh helpers stand_ins) a h = refl
off-move (read boards output) a h = refl
off-move (edit offset bytes boards) a h = refl
off-move (start fresh helpers stand_ins) a h = refl
off-move (step allowance packets) a h = refl
off-move (careful boards output) a h = refl
off-move (move board point helpers partners) a h = rw (ne_eqb a.refusal 0 h) refl

-- ---- whatever the call, with both records

length-on : (boards : List ℕ) (marks : List Bool) → length (turn_on boards marks) ≡ length marks
length-on [] marks = refl
length-on (i ∷ boards) marks = length-on boards (set marks i true) ∙ length-set marks i true

module _ (s : Record) (p : Running) (area output packets : List ℕ) (done : Outcome) where
  keeps : (t : Check) → done.answer.refusal ≡ 0 → let o = by s p area output packets done t in
      (o.answer.refusal ≡ 0 → ⊥) → o ≡ record { answer = o.answer; handed = s; running = p; area = area; output = output; packets = packets }
  keeps (Ok tt) e h = absurd (h e)
  keeps (Err x) e h = refl

  full : (t : Check) → length s.marks ≡ max_boards → length done.handed.marks ≡ max_boards → length (by s p area output packets done t).handed.marks ≡ max_boards
  full (Ok tt) e d = d
  full (Err x) e d = e

  points-by : (c : Call) (t : Check) → done.handed.points ≡ set_points s.points (new_point c done.answer)
      → (by s p area output packets done t).handed.points ≡ set_points s.points (new_point c (by s p area output packets done t).answer)
  points-by c (Ok tt) d = d
  points-by c (Err x) d = ap (set_points s.points) (sym (no-point c x))

done_full : (s : Record) (p : Running) (area : List ℕ) (c : Call) → length s.marks ≡ max_boards → length (store_done s p area c).handed.marks ≡ max_boards
unfolding store_done
done_full s p area (write file) e = refl
done_full s p area (lose board) e = length-set s.marks board false ∙ e
done_full s p area (repair fresh helpers stand_ins) e = length-on fresh s.marks ∙ e
done_full s p area (read boards output) e = e
done_full s p area (edit offset bytes boards) e = e
done_full s p area (start fresh helpers stand_ins) e = e
done_full s p area (step allowance packets) e = go (leb (left_of s p area packets) allowance)
  where
    go : (t : Bool) → length (pick t (step_last s p area packets) (step_on s p area packets allowance)).handed.marks ≡ max_boards
    go true = length-on (fresh_of p) s.marks ∙ e
    go false = e
done_full s p area (careful boards output) e = e
done_full s p area (move board point helpers partners) e = e

done-points : (s : Record) (p : Running) (area : List ℕ) (c : Call) → (store_done s p area c).handed.points ≡ set_points s.points (new_point c (store_done s p area c).answer)
unfolding store_done
done-points s p area (write file) = refl
done-points s p area (lose board) = refl
done-points s p area (repair fresh helpers stand_ins) = refl
done-points s p area (read boards output) = refl
done-points s p area (edit offset bytes boards) = refl
done-points s p area (start fresh helpers stand_ins) = refl
done-points s p area (step allowance packets) = go (leb (left_of s p area packets) allowance)
  where
    go : (t : Bool) → (pick t (step_last s p area packets) (step_on s p area packets allowance)).handed.points ≡ s.points
    go true = refl
    go false = refl
done-points s p area (careful boards output) = refl
done-points s p area (move board point helpers partners) = refl

refused-keeps : (w : State) (c : Call) → ((act w c).answer.refusal ≡ 0 → ⊥)
    → act w c ≡ record { answer = (act w c).answer; handed = w.kept; running = w.running; area = w.area; output = output_of c; packets = packets_of_call c }
refused-keeps w c =
    subst
    (λ (o : Outcome). (o.answer.refusal ≡ 0 → ⊥)
    → o ≡ record { answer = o.answer; handed = w.kept; running = w.running; area = w.area; output = output_of c; packets = packets_of_call c })
    (sym (act-is w c))
    (keeps w.kept w.running w.area (output_of c) (packets_of_call c) (store_done w.kept w.running w.area c)
    (first store_order (store_lines w.kept w.running w.area c)) (done-accepted w.kept w.running w.area c))

full-marks : (w : State) (c : Call) → length w.kept.marks ≡ max_boards → length (act w c).handed.marks ≡ max_boards
full-marks w c e =
    ap (λ (o : Outcome). length o.handed.marks) (act-is w c)
    ∙ full w.kept w.running w.area (output_of c) (packets_of_call c) (store_done w.kept w.running w.area c)
    (first store_order (store_lines w.kept w.running w.area c)) e (done_full w.kept w.running w.area c e)

points-are : (w : State) (c : Call) → (act w c).handed.points ≡ set_points w.kept.points (new_point c (act w c).answer)
points-are w c =
    subst (λ (o : Outcome). o.handed.points ≡ set_points w.kept.points (new_point c o.answer)) (sym (act-is w c))
    (points-by w.kept w.running w.area (output_of c) (packets_of_call c) (store_done w.kept w.running w.area c) c
    (first store_order (store_lines w.kept w.running w.area c))
    (done-points w.kept w.running w.area c))

-- points that are moved
length-points : (xs : List ℕ) (ps : List (ℕ × ℕ)) → length (set_points xs ps) ≡ length xs
length-points xs [] = refl
length-points xs (p ∷ ps) = length-points (set xs p.0 p.1) ps ∙ length-set xs p.0 p.1

points-bytes : (xs : List ℕ) (ps : List (ℕ × ℕ)) → Bytes xs → All (λ p. p.1 < 256) ps → Bytes (set_points xs ps)
points-bytes xs [] b h = b
points-bytes xs (p ∷ ps) b h = points-bytes (set xs p.0 p.1) ps (set-bytes xs p.0 p.1 b h.0) h.1
  where
    set-bytes : (xs : List ℕ) (i x : ℕ) → Bytes xs → x < 256 → Bytes (set xs i x)
    set-bytes [] i x b h = tt
    set-bytes (y ∷ xs) zero x b h = (h, b.1)
    set-bytes (y ∷ xs) (suc i) x b h = (b.0, set-bytes xs i x b.1 h)

fair-point : (c : Call) (a : Said) → ((board point : ℕ) (helpers partners : List ℕ) → c ≡ move board point helpers partners → point < 256)
    → All {A = ℕ × ℕ} (λ p. p.1 < 256) (new_point c a)
fair-point (write file) a f = tt
fair-point (lose board) a f = tt
fair-point (repair fresh helpers stand_ins) a f = tt
fair-point (read boards output) a f = tt
fair-point (edit offset bytes boards) a f = tt
fair-point (start fresh helpers stand_ins) a f = tt
fair-point (step allowance packets) a f = tt
fair-point (careful boards output) a f = tt
fair-point (move board point helpers partners) a f = go (eqb a.refusal 0)
  where
    go : (t : Bool) → All {A = ℕ × ℕ} (λ p. p.1 < 256) (pick t ((board, point) ∷ []) [])
    go true = (f board point helpers partners refl, tt)
    go false = tt

-- the arrays of the record beside

arrays-idle : Arrays idle
arrays-idle = record {
  fresh-long = refl;
  fresh-bytes = zeros-bytes 32;
  helpers-long = refl;
  helpers-bytes = zeros-bytes 256;
  stand-ins-long = refl;
  stand-ins-bytes = zeros-bytes 256;
}

arrays-started : (s : Record) (p : Running) (m : ℕ) (fresh helpers stand_ins : List ℕ) → first store_order (repair_lines_both s p m fresh helpers stand_ins) ≡ Ok tt
    → Arrays (running_by fresh helpers stand_ins 0)
unfolding repair_lines_both repair_lines list_lines
arrays-started s p m fresh helpers stand_ins h =
    let pass = (alone-busy s p p.running (drop 1 (repair_lines s m fresh helpers stand_ins)) refl h).0 in
    let f = repair-facts s m fresh helpers stand_ins pass in
    let few = (legal-facts s.sizes (sound-facts s f.is-sound).is-legal).few in
    let all : Bytes (fresh ++ (helpers ++ stand_ins)) =
    all-imp (λ x. x < s.sizes.n) (λ x. x < 256) (λ x l. omega (arith, l, few)) (fresh ++ (helpers ++ stand_ins)) (below_all s.sizes.n (fresh ++ (helpers ++ stand_ins)) f.named-below) in
    let rest = all_right (λ x. x < 256) fresh (helpers ++ stand_ins) all in
    record {
      fresh-long = length-fit 32 fresh;
      fresh-bytes = fit-bytes 32 fresh (all_left (λ x. x < 256) fresh (helpers ++ stand_ins) all);
      helpers-long = length-fit 256 helpers;
      helpers-bytes = fit-bytes 256 helpers (all_left (λ x. x < 256) helpers stand_ins rest);
      stand-ins-long = length-fit 256 stand_ins;
      stand-ins-bytes = fit-bytes 256 stand_ins (all_right (λ x. x < 256) helpers stand_ins rest);
    }

done-arrays : (s : Record) (p : Running) (area : List ℕ) (c : Call) → first store_order (store_lines s p area c) ≡ Ok tt → Arrays p → Arrays (store_done s p area c).running
unfolding store_done store_lines
done-arrays s p area (write file) h a = a
done-arrays s p area (lose board) h a = go (alls (p.running ∷ among (named_in s.sizes p) board ∷ []))
  where
    go : (t : Bool) → Arrays (pick t idle p)
    go true = arrays-idle
    go false = a
done-arrays s p area (repair fresh helpers stand_ins) h a = a
done-arrays s p area (read boards output) h a = a
done-arrays s p area (edit offset bytes boards) h a = a
done-arrays s p area (start fresh helpers stand_ins) h a = arrays-started s p (length area) fresh helpers stand_ins h
done-arrays s p area (step allowance packets) h a = go (leb (left_of s p area packets) allowance)
  where
    go : (t : Bool) → Arrays (pick t (step_last s p area packets) (step_on s p area packets allowance)).running
    go true = arrays-idle
    go false = record {
      fresh-long = a.fresh-long;
      fresh-bytes = a.fresh-bytes;
      helpers-long = a.helpers-long;
      helpers-bytes = a.helpers-bytes;
      stand-ins-long = a.stand-ins-long;
      stand-ins-bytes = a.stand-ins-bytes;
    }
done-arrays s p area (careful boards output) h a = a
done-arrays s p area (move board point helpers partners) h a = a

arrays-stay : (w : State) (c : Call) → Arrays w.running → Arrays (act w c).running
arrays-stay w c a = subst (λ (o : Outcome). Arrays o.running) (sym (act-is w c)) (go (first store_order (store_lines w.kept w.running w.area c)) refl)
  where
    go : (t : Check) → first store_order (store_lines w.kept w.running w.area c) ≡ t
        → Arrays (by w.kept w.running w.area (output_of c) (packets_of_call c) (store_done w.kept w.running w.area c) t).running
    go (Ok tt) e = done-arrays w.kept w.running w.area c e a
    go (Err x) e = a

pub handed-laws : HandedLaws
handed-laws = record {
  new-one = one-new;
  new_none = off-move;
  refused-keeps = refused-keeps;
  full-marks = full-marks;
  points-are = points-are;
  full-points = λ w call. ap length (points-are w call) ∙ length-points w.kept.points (new_point call (act w call).answer);
  byte-points = λ w call f b. subst Bytes (sym (points-are w call)) (points-bytes w.kept.points (new_point call (act w call).answer) b (fair-point call (act w call).answer f));
  arrays-stay = arrays-stay;
  arrays-idle = arrays-idle;
}
