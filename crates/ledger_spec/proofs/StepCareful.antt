-- A careful read: store and ledger reply alike, the file and no odd board.
-- Assumes nothing.
use Prim.Native.Nat.{ℕ, ◌+◌, ◌≤◌, ◌<◌}
use mathlib.Core.Path.{◌≡◌, refl, sym, ◌∙◌, ap}
use mathlib.Core.Bool.{Bool, true, not}
use mathlib.Core.List.{List, []}
use mathlib.Core.Option.{Option, some, none}
use native.Mathlib.Omega.{arith}
use lib.ListN.{length, take, drop}
use borrow.Author.Tests.{eqb-true, le-leb}
use Rattle.lists.specs.Lists.{All, tabulate}
use Rattle.lists.specs.Tests.{pick, every, among, given}
use Rattle.lists.proofs.Alls.{all-imp, take-alls}
use Rattle.lists.proofs.Pieces.{length-tabulate, tabulate-at, tabulate-all}
use Rattle.lists.proofs.Tests.{every-all, all-every, not-no, alls-hold}
use Rattle.sizes.specs.Refusals.{first, store_order}
use Rattle.sizes.specs.declared.Refusal.TheVariants.{Count, Node, Repeat, Down}
use Rattle.mbcr.specs.Demand2.{Named}
use Rattle.board_spec.specs.Calls.{file_of}
use Rattle.store_spec.specs.Calls.{file_held}
use Rattle.store_spec.specs.Careful.{leaving, holds_share, agreeing, odd, qualifying, careful_file, careful_lines}
use Rattle.beside_spec.specs.Running.{Running}
use Rattle.beside_spec.specs.Both.{careful_lines_both, careful_both}
use Rattle.beside_spec.specs.BothCalls.{store_lines}
use Rattle.beside_spec.specs.Acting.{careful, act}
use Rattle.ledger_spec.specs.Ledger.{Book, book_record, Tells, book_lines, packets_after, enter, accept}
use Rattle.store_spec.specs.Record.{in_service}
use Rattle.store_spec.proofs.Asked.{every-same}
use Rattle.store_spec.proofs.Careful.{first-named, fact-holds}
use Rattle.store_spec.proofs.Records.{careful-facts, care_tests}
use Rattle.store_spec.proofs.Seam.{AllLaws}
use Rattle.beside_spec.proofs.Beside.{alone}
use Rattle.ledger_spec.proofs.Step.{Inv, Runs, up, at, same_check, Good, good-both, refusal-good}
use Rattle.ledger_spec.proofs.StepRead.{reading}
use Rattle.store_spec.proofs.Those.{those-none, those-count, leaving-all, first-only}

module _ (laws : AllLaws) (b : Book) (area : List ℕ) (v : Inv b area) where
  module _ (boards : List ℕ) (named : Named b.sizes (b.sizes.k + 2) boards) (u : every (among b.service) boards ≡ true) where
    abbrev file : List ℕ
    file = file_of b.file

    serves : All (λ i. among b.service i ≡ true) boards
    serves = every-all (among b.service) boards u

    -- none is odd
    pub no-odd : odd (book_record b) area file boards ≡ []
    no-odd =
        those-none (λ i. not (holds_share (book_record b) area file i)) boards
        (all-imp (λ i. among b.service i ≡ true) _ (λ i e. ap not (fact-holds (book_record b) area file i (v.holds i e))) boards serves)

    all-agree : b.sizes.k + 1 ≤ length (agreeing (book_record b) area file boards)
    all-agree = omega (arith, those-count (holds_share (book_record b) area file) boards, ap length no-odd, named.0)

    abbrev tried : ℕ → Option (List ℕ)
    tried t = qualifying (book_record b) area boards (file_held (book_record b) area (take b.sizes.k (leaving t boards)))

    -- whichever board is left out
    each : (t : ℕ) → t < length boards → tried t ≡ some file
    each t h =
        let n = first-named (book_record b) boards named t h in
        ap (qualifying (book_record b) area boards)
        (reading laws b area v (take b.sizes.k (leaving t boards)) n.0 n.1 n.2
        (all-every (among b.service) (take b.sizes.k (leaving t boards))
        (take-alls (λ i. among b.service i ≡ true) b.sizes.k (leaving t boards) (leaving-all (λ i. among b.service i ≡ true) t boards serves))))
        ∙ ap (λ (c : Bool). taken c) (le-leb _ _ all-agree)
      where
        taken : Bool → Option (List ℕ)
        taken c = pick c (some (file_of b.file)) none

    pub found : careful_file (book_record b) area boards ≡ some file
    unfolding careful_file
    found =
        let some-board : 0 < length boards = omega (arith, named.0) in
        first-only file (tabulate (length boards) tried)
        (tabulate-all (λ o. (f : List ℕ) → o ≡ some f → f ≡ file) (length boards) tried (λ t h f e. let k = each t h in cc))
        0 (omega (arith, length-tabulate (length boards) tried, some-board)) (tabulate-at (length boards) tried none 0 some-board ∙ each 0 some-board)

module _ (laws : AllLaws) (b : Book) (area : List ℕ) (v : Inv b area) (packets : List ℕ) (g : Runs b b.repairing area packets) (p : Running) (tells : Tells b.sizes b.repairing p) where
  careful-same : (boards output : List ℕ)
      → first store_order (careful_lines_both (book_record b) p area boards output) ≡ first store_order (book_lines b (careful boards output))
  unfolding store_lines careful_lines_both careful_lines book_lines
  careful-same boards output =
      same_check laws b area v packets g p tells (careful boards output) (λ off.
      let c = alls-hold (care_tests (book_record b) boards) (not-no _ (off Count refl)) in
      ap (λ (o : Option (List ℕ)). not (given o))
      (found laws b area v boards (eqb-true _ _ c.1.0, not-no _ (off Node refl), not-no _ (off Repeat refl)) (not-no _ (off Down refl))))

  pub careful-good : (boards output : List ℕ)
      → Good (packets_after packets (careful boards output)) (act (at laws b area v packets g p tells) (careful boards output)) (enter b (careful boards output))
  unfolding act enter accept careful_both careful_lines_both careful_lines
  careful-good boards output =
      good-both (packets_after packets (careful boards output)) _ _ _ _ _ _ (careful-same boards output)
      (λ x. refusal-good laws b area v packets g p tells (packets_after packets (careful boards output)) output [] x refl)
      (λ e. let f = careful-facts (book_record b) area boards output (alone (book_record b) p (drop 1 (careful_lines (book_record b) area boards output)) e) in
      let u : every (among b.service) boards ≡ true = sym (every-same (in_service (book_record b)) (among b.service) boards (up laws b area v)) ∙ f.all_up in
      let n : Named b.sizes (b.sizes.k + 2) boards = (f.count, f.named-below, f.all-different) in
      rw (found laws b area v boards n u, no-odd laws b area v boards n u)
      (record { alike = refl; same-record = refl; same-running = tells; inv = v; runs = g }))
