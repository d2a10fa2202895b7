-- Demand 1 of the store's calls with both records holds.
-- Assumes nothing.
use Prim.Native.Nat.{ℕ, ◌+◌, ◌-◌, ◌*◌, ◌<◌}
use mathlib.Core.Path.{◌≡◌, refl, sym, ◌∙◌, ap, ap₂, subst}
use mathlib.Core.Bool.{Bool, true, false, not}
use mathlib.Core.Logic.{◌≢◌, ◌↔◌, ◌⊎◌, inl, inr}
use mathlib.Core.List.{List, [], ◌∷◌}
use lib.Dec.{leb, eqb, ltb}
use lib.ListN.{length}
use borrow.Author.Tests.{eqb-false, ne_eqb, lt-ltb}
use Rattle.lists.specs.Lists.{All}
use Rattle.lists.specs.Tests.{pick, alls}
use Rattle.lists.proofs.Tests.{true-false, hold-alls}
use Rattle.sizes.specs.declared.Sizes.{Sizes}
use Rattle.std.specs.Prelude.{Err}
use Rattle.sizes.specs.Refusals.{said, Line, applies_in, first, store_order, Check}
use Rattle.sizes.proofs.Lines.{one-or-none, refuse-first, clear_first, first-clear, says-not, says-itself, says-differ, says_less, says_two, says-no-file}
use Rattle.board_spec.proofs.Claims.{EachSays, ◌and◌, end, lines-say, says-either}
use Rattle.store_spec.specs.Record.{Record, new_record}
use Rattle.beside_spec.specs.Running.{Running, idle, fresh_of, helpers_of, stand_ins_of, packet_count, passed, sound_beside}
use Rattle.store_spec.specs.Calls.{settle, accepted, record_line, write_lines, lose_lines, list_lines, repair_lines, read_lines}
use Rattle.store_spec.specs.Edit.{edit_lines}
use Rattle.store_spec.specs.Careful.{careful_lines}
use Rattle.store_spec.specs.Move.{move_lines}
use Rattle.beside_spec.specs.Both.{Outcome, beside, write_lines_both, lose_lines_both, repair_lines_both, read_lines_both, edit_lines_both, careful_lines_both, move_lines_both, step_lines}
use Rattle.beside_spec.specs.Both.{left_of, step_last, step_on, set_up_both, write_both, lose_both, repair_both, read_both, edit_both, careful_both, move_both, start_call, step_call}
use Rattle.beside_spec.specs.BothCalls.{BothEnds, store_lines, store_done, store_claims, BothCalls}
use Rattle.beside_spec.specs.Acting.{Call, write, lose, repair, read, edit, start, step, careful, move, State, act, output_of, packets_of_call}
use Rattle.beside_spec.proofs.Beside.{sound-beside}
use Rattle.store_spec.proofs.Demand1.{list-each, says_both, says-repeat, says-down}
use Rattle.store_spec.proofs.Passed.{settle-pass}

-- ---- a call by its lines

module _ (s : Record) (p : Running) (area output packets : List ℕ) (done : Outcome) where
  abbrev pub by : Check → Outcome
  by t = settle t (λ x. record { answer = said (Err x); handed = s; running = p; area = area; output = output; packets = packets }) done

-- each call is its lines and what it does
pub act-is : (w : State) (c : Call)
    → act w c ≡ by w.kept w.running w.area (output_of c) (packets_of_call c) (store_done w.kept w.running w.area c)
    (first store_order (store_lines w.kept w.running w.area c))
unfolding act store_lines store_done write_both lose_both repair_both read_both edit_both start_call step_call careful_both move_both
act-is w (write file) = refl
act-is w (lose board) = refl
act-is w (repair fresh helpers stand_ins) = refl
act-is w (read boards output) = refl
act-is w (edit offset bytes boards) = refl
act-is w (start fresh helpers stand_ins) = refl
act-is w (step allowance packets) = refl
act-is w (careful boards output) = refl
act-is w (move board point helpers partners) = refl

-- what is done is accepted
pub done-accepted : (s : Record) (p : Running) (area : List ℕ) (c : Call) → (store_done s p area c).answer.refusal ≡ 0
unfolding store_done
done-accepted s p area (write file) = refl
done-accepted s p area (lose board) = refl
done-accepted s p area (repair fresh helpers stand_ins) = refl
done-accepted s p area (read boards output) = refl
done-accepted s p area (edit offset bytes boards) = refl
done-accepted s p area (start fresh helpers stand_ins) = refl
done-accepted s p area (step allowance packets) = go (leb (left_of s p area packets) allowance)
  where
    go : (t : Bool) → (pick t (step_last s p area packets) (step_on s p area packets allowance)).answer.refusal ≡ 0
    go true = refl
    go false = refl
done-accepted s p area (careful boards output) = refl
done-accepted s p area (move board point helpers partners) = refl

ends : (lines : List Line) (s : Record) (p : Running) (area output packets : List ℕ) (done : Outcome) → done.answer.refusal ≡ 0
    → BothEnds lines s p area output packets done (by s p area output packets done (first store_order lines))
ends lines s p area output packets done z = record {
  one = one-or-none lines store_order;
  refuses = λ x h. ap (by s p area output packets done) (refuse-first lines store_order x h);
  works = λ h.
      let e : by s p area output packets done (first store_order lines) ≡ done = settle-pass _ _ _ (clear_first lines store_order h) in
      (e, ap (λ (o : Outcome). o.answer.refusal) e ∙ z);
}

call_ends : (w : State) (c : Call)
    → BothEnds (store_lines w.kept w.running w.area c) w.kept w.running w.area (output_of c) (packets_of_call c)
    (store_done w.kept w.running w.area c) (act w c)
call_ends w c =
    subst
    (BothEnds (store_lines w.kept w.running w.area c) w.kept w.running w.area (output_of c) (packets_of_call c) (store_done w.kept w.running w.area c))
    (sym (act-is w c))
    (ends (store_lines w.kept w.running w.area c) w.kept w.running w.area (output_of c) (packets_of_call c) (store_done w.kept w.running w.area c)
    (done-accepted w.kept w.running w.area c))

set-up-ends : (old : Record) (p : Running) (z : Sizes) (xs : List ℕ) (c : ℕ)
    → BothEnds (record_line (new_record z xs c) ∷ []) old p [] [] [] (beside idle (accepted 0 (new_record z xs c) [] [])) (set_up_both old p z xs c)
unfolding set_up_both
set-up-ends old p z xs c = ends _ old p [] [] [] _ refl

-- ---- what the lines say

-- AREA of a step, by two lengths
says-lengths : (m a mp l : ℕ) (r : Bool) → (not (alls (eqb m a ∷ pick r (eqb mp l) true ∷ [])) ≡ true) ↔ ((m ≢ a) ⊎ ((r ≡ true) × (mp ≢ l)))
says-lengths m a mp l r = (there, back)
  where
    there : not (alls (eqb m a ∷ pick r (eqb mp l) true ∷ [])) ≡ true → (m ≢ a) ⊎ ((r ≡ true) × (mp ≢ l))
    there e = go (eqb m a) refl r refl (eqb mp l) refl e
      where
        go : (t : Bool) → eqb m a ≡ t → (q : Bool) → r ≡ q → (u : Bool) → eqb mp l ≡ u → not (alls (t ∷ pick q u true ∷ [])) ≡ true
            → (m ≢ a) ⊎ ((r ≡ true) × (mp ≢ l))
        go false x q y u z h = inl (eqb-false m a x)
        go true x true y false z h = inr (y, eqb-false mp l z)
        go true x true y true z h = absurd (true-false h refl)
        go true x false y u z h = absurd (true-false h refl)

    back : (m ≢ a) ⊎ ((r ≡ true) × (mp ≢ l)) → not (alls (eqb m a ∷ pick r (eqb mp l) true ∷ [])) ≡ true
    back (inl h) = ap (λ (t : Bool). not (alls (t ∷ pick r (eqb mp l) true ∷ []))) (ne_eqb m a h)
    back (inr h) =
        ap₂ (λ (q u : Bool). not (alls (eqb m a ∷ pick q u true ∷ []))) h.0 (ne_eqb mp l h.1) ∙ go (eqb m a)
      where
        go : (t : Bool) → not (alls (t ∷ false ∷ [])) ≡ true
        go true = refl
        go false = refl

lines-hold : (s : Record) (p : Running) (area : List ℕ) (c : Call) → EachSays (store_lines s p area c) (store_claims s p area c)
unfolding store_lines write_lines_both lose_lines_both repair_lines_both read_lines_both edit_lines_both careful_lines_both move_lines_both step_lines write_lines lose_lines repair_lines read_lines edit_lines careful_lines
    move_lines
lines-hold s p area (write file) = says-either _ _ and says-itself _ and says-differ _ _ and says_less _ _ and end
lines-hold s p area (lose board) = says-either _ _ and says-not _ and end
lines-hold s p area (repair fresh helpers stand_ins) =
    says-either _ _ and says-itself _ and says-differ _ _ and says-not _ and list-each s fresh helpers stand_ins
lines-hold s p area (read boards output) =
    says-either _ _
    and says-differ _ _
    and says-not _
    and says-differ _ _
    and says-not _
    and says-not _
    and says-not _
    and says_less _ _
    and says-no-file _
    and end
lines-hold s p area (edit offset bytes boards) =
    says-either _ _
    and says-itself _
    and says-differ _ _
    and says-not _
    and says_less _ _
    and says-differ _ _
    and says-not _
    and says-not _
    and says-not _
    and says-no-file _
    and end
lines-hold s p area (start fresh helpers stand_ins) =
    says-either _ _ and says-itself _ and says-differ _ _ and says-not _ and list-each s fresh helpers stand_ins
lines-hold s p area (step allowance packets) = says-either _ _ and says-lengths _ _ _ _ _ and says-not _ and says-not _ and end
lines-hold s p area (careful boards output) =
    says-either _ _
    and says-differ _ _
    and says-not _
    and says_both _ _ _ _
    and says-not _
    and says-not _
    and says-not _
    and says_less _ _
    and says-no-file _
    and end
lines-hold s p area (move board point helpers partners) =
    says-either _ _
    and says-itself _
    and says-differ _ _
    and says-not _
    and says_two _ _ _ _
    and says-not _
    and says-repeat _ _
    and says-down _ _
    and end

-- ---- records of a repair

beside-there : (s : Record) (p : Running) → sound_beside s p ≡ true → p.running ≡ true
    → All (λ x. applies_in (list_lines s (fresh_of p) (helpers_of s.sizes p) (stand_ins_of s.sizes p)) x ≡ false) store_order
    × (p.carried < length (fresh_of p) * (s.sizes.d + s.sizes.r - 1))
beside-there s p h e =
    let g = sound-beside s p h e in
    (first-clear (list_lines s (fresh_of p) (helpers_of s.sizes p) (stand_ins_of s.sizes p)) store_order g.0, g.1)

beside_back : (s : Record) (p : Running)
    → (p.running ≡ true
    → All (λ x. applies_in (list_lines s (fresh_of p) (helpers_of s.sizes p) (stand_ins_of s.sizes p)) x ≡ false) store_order
    × (p.carried < length (fresh_of p) * (s.sizes.d + s.sizes.r - 1)))
    → sound_beside s p ≡ true
unfolding sound_beside
beside_back s p h = go p.running refl
  where
    tests : List Bool
    tests =
        passed (first store_order (list_lines s (fresh_of p) (helpers_of s.sizes p) (stand_ins_of s.sizes p)))
        ∷ ltb p.carried (packet_count s.sizes (length (fresh_of p)))
        ∷ []

    go : (t : Bool) → p.running ≡ t → pick t (alls tests) true ≡ true
    go false e = refl
    go true e =
        let k = h e in
        hold-alls tests (
          ap passed (clear_first (list_lines s (fresh_of p) (helpers_of s.sizes p) (stand_ins_of s.sizes p)) store_order k.0),
          (lt-ltb p.carried (packet_count s.sizes (length (fresh_of p))) k.1, tt),
        )

pub both-calls : BothCalls
both-calls = record {
  lines-say = λ s p area c. lines-say (store_lines s p area c) (store_claims s p area c) (lines-hold s p area c);
  call_ends = call_ends;
  set-up-ends = set-up-ends;
  beside-is = λ s p. (beside-there s p, beside_back s p);
}
