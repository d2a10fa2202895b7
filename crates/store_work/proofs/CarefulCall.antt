-- A careful read, at the record's points: what it hands on where its check refuses, where no file qualifies, and where one does.
-- Assumes nothing.
use Prim.Native.Nat.{ℕ, ◌+◌, ◌≤◌}
use mathlib.Core.Path.{◌≡◌, refl, sym, ap, ap₂, ◌∙◌}
use mathlib.Core.Bool.{true, false, not}
use mathlib.Core.List.{List, [], ◌∷◌}
use lib.Dec.{leb, eqb}
use lib.ListN.{length}
use borrow.Author.Tests.{eqb-true, ltb-false}
use Rattle.lists.specs.Lists.{over}
use Rattle.lists.specs.Tests.{given}
use Rattle.lists.proofs.Tests.{not-no, alls-hold}
use Rattle.sizes.specs.declared.Refusal.{Refusal}
use Rattle.sizes.specs.declared.Refusal.TheVariants.{Size, Area, Count, Node, Repeat, Short, Disagree}
use Rattle.std.specs.Prelude.{Ok, Err}
use Rattle.sizes.specs.Refusals.{◌when◌, first, store_order, Check}
use Rattle.sizes.proofs.Orders.{clear-off}
use Rattle.board_spec.specs.Calls.{file_of}
use Rattle.store_spec.specs.Record.{Record}
use Rattle.store_spec.specs.Calls.{accepted}
use Rattle.store_spec.specs.Careful.{careful_file, odd, odd_report, careful_lines, careful_done}
use Rattle.beside_spec.specs.Running.{Running}
use Rattle.beside_spec.specs.Both.{Outcome, beside, careful_lines_both, careful_both}
use Rattle.line_checks.specs.Steps.{asked}
use Rattle.line_checks.proofs.Answers.{passes, refuses as refused-line}
use Rattle.board_lines.proofs.Chain.{then, split, goes-on, refuses}
use Rattle.beside_spec.proofs.Beside.{both_facts}
use Rattle.check_careful.specs.Steps.{asked_lines}
use Rattle.careful_tries.specs.Steps.{Careful}
use Rattle.store_work.specs.Handing.{turned_down}
use Rattle.store_work.proofs.Settled.{refused-by, done-by}

module _ (s : Record) (p : Running) (area boards output : List ℕ) where
  abbrev pub checked : Check
  checked = first store_order (careful_lines_both s p area boards output)

  -- the lines before DISAGREE, and DISAGREE
  abbrev pub begins : Check
  begins = first store_order (asked_lines s p (length area) boards output)

  abbrev pub agrees : Check
  agrees = asked (Disagree when not (given (careful_file s area boards)))

  in-turn : then begins agrees ≡ checked
  unfolding careful_lines_both careful_lines
  in-turn = sym (split (asked_lines s p (length area) boards output) (Disagree when not (given (careful_file s area boards)) ∷ []))

  pub careful-refuses : {r : Check} {x : Refusal} → r ≡ begins → r ≡ Err x → turned_down s p area output [] x ≡ careful_both s p area boards output
  unfolding careful_both
  careful-refuses e h = refused-by (turned_down s p area output []) (beside p (careful_done s area boards output)) (refuses agrees in-turn e h) refl

  module _ (r : Check) (begun : r ≡ begins) (passed : r ≡ Ok tt) where
    -- no file qualifies
    pub careful-disagrees : (out : List ℕ) → given (careful_file s area boards) ≡ false → out ≡ output
        → turned_down s p area out [] Disagree ≡ careful_both s p area boards output
    unfolding careful_both
    careful-disagrees out e eo =
        ap (λ (l : List ℕ). turned_down s p area l [] Disagree) eo
        ∙ refused-by (turned_down s p area output []) (beside p (careful_done s area boards output))
        (refused-line (Disagree when not (given (careful_file s area boards))) (ap not e) ∙ goes-on in-turn begun passed) refl

    -- what the lines before DISAGREE told
    pub careful-asks : Careful s boards area
    careful-asks =
        let off = clear-off (asked_lines s p (length area) boards output) store_order (sym begun ∙ passed) in
        let count = alls-hold (leb (s.sizes.k + 2) s.sizes.n ∷ eqb (length boards) (s.sizes.k + 2) ∷ []) (not-no _ (off Count refl)) in
        record {
          is-sound = (both_facts s p (off Size refl)).0;
          named = (eqb-true _ _ count.1.0, not-no _ (off Node refl), not-no _ (off Repeat refl));
          area-is = eqb-true _ _ (not-no _ (off Area refl));
        }

    pub careful-room : s.length ≤ length output
    careful-room = ltb-false _ _ (clear-off (asked_lines s p (length area) boards output) store_order (sym begun ∙ passed) Short refl)

    -- one does
    pub careful-works : (v : ℕ) (written : List ℕ) → given (careful_file s area boards) ≡ true → v ≡ odd_report (odd s area (file_of (careful_file s area boards)) boards)
        → written ≡ over (file_of (careful_file s area boards)) output → beside p (accepted v s area written) ≡ careful_both s p area boards output
    unfolding careful_both
    careful-works v written e ev ew =
        ap₂ {C = Outcome} (λ (m : ℕ) (l : List ℕ). beside p (accepted m s area l)) ev ew
        ∙ done-by (turned_down s p area output []) (beside p (careful_done s area boards output))
        (sym (passes (Disagree when not (given (careful_file s area boards))) (ap not e) ∙ goes-on in-turn begun passed))
