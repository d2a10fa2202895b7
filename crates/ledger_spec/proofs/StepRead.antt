-- A read: store and ledger reply alike; and every read of k different boards in service gives the book's file.
-- Assumes nothing.
use Prim.Native.Nat.{ℕ, ◌≤◌, ◌<◌}
use mathlib.Core.Path.{◌≡◌, refl, sym, ◌∙◌, ap}
use mathlib.Core.Bool.{Bool, true, false, not}
use mathlib.Core.List.{List, [], ◌∷◌}
use mathlib.Core.Option.{Option, some}
use native.Mathlib.Omega.{arith}
use lib.ListN.{length, drop}
use borrow.Author.Tests.{eqb-true}
use Rattle.lists.specs.Lists.{over}
use Rattle.lists.specs.Tests.{below, different, every, among, given}
use Rattle.lists.proofs.Alls.{all-imp}
use Rattle.lists.proofs.Boards.{joined-all, all-below, all_among}
use Rattle.lists.proofs.Tests.{both, every-all, not-no}
use Rattle.sizes.specs.Refusals.{first, store_order}
use Rattle.std.specs.Prelude.{Ok}
use Rattle.sizes.specs.declared.Refusal.TheVariants.{Count, Node, Repeat, Down}
use Rattle.sizes.proofs.Legal.{legal-facts}
use Rattle.mbcr.specs.Read.{read_file}
use Rattle.mbcr.specs.Share.{share}
use Rattle.board_spec.specs.Calls.{file_of}
use Rattle.store_spec.specs.Calls.{accepted, file_held, read_lines}
use Rattle.beside_spec.specs.Running.{Running}
use Rattle.beside_spec.specs.Both.{beside, read_lines_both, read_both}
use Rattle.beside_spec.specs.BothCalls.{store_lines}
use Rattle.beside_spec.specs.Acting.{read, act}
use Rattle.ledger_spec.specs.Ledger.{Book, book_record, Tells, book_length, book_lines, packets_after, enter, accept}
use Rattle.store_spec.specs.Record.{held, in_service}
use Rattle.store_spec.proofs.Asked.{every-same}
use Rattle.store_spec.proofs.Marks.{off-none, marks_of}
use Rattle.store_spec.proofs.Records.{Sound, Reads, read-facts, blank-off, reads-pass}
use Rattle.beside_spec.proofs.Beside.{alone, both-pass}
use Rattle.store_spec.proofs.Seam.{AllLaws}
use Rattle.ledger_spec.proofs.Step.{Inv, Runs, facts, lawful, up, at, both-off, same_check, Good, good-both, refusal-good}
use Rattle.store_spec.proofs.Passed.{settle-pass}

module _ (laws : AllLaws) (b : Book) (area : List ℕ) (v : Inv b area) where
  known : Sound (book_record b)
  known = facts laws b area v

  pub reading : (boards : List ℕ) → length boards ≡ b.sizes.k → below b.sizes.n boards ≡ true → different boards ≡ true → every (among b.service) boards ≡ true
      → file_held (book_record b) area boards ≡ some (file_of b.file)
  reading boards c l d u =
      let m = joined-all (held (book_record b) area) (share b.sizes b.points (file_of b.file)) boards
      (all-imp (λ i. among b.service i ≡ true) _ (λ i e. v.holds i e) boards (every-all (among b.service) boards u)) in
      ap (read_file b.sizes b.points (book_length b) boards) m ∙ (lawful laws b area v).reads (file_of b.file) v.bytes boards c l d

  -- where a board is in service, a file was accepted
  pub one_written : (boards : List ℕ) → 0 < length boards → every (among b.service) boards ≡ true → given b.file ≡ true
  one_written [] c u = absurd (omega arith)
  one_written (x ∷ l) c u = go (given b.file) refl
    where
      go : (t : Bool) → given b.file ≡ t → given b.file ≡ true
      go true e = e
      go false e =
          absurd (off-none (marks_of b.service) x (blank-off (book_record b) known.blank e) (up laws b area v x ∙ (both (among b.service x) (every (among b.service) l) u).0))

  pub some_written : (boards : List ℕ) → length boards ≡ b.sizes.k → every (among b.service) boards ≡ true → given b.file ≡ true
  some_written boards c u = one_written boards (omega (arith, c, (legal-facts b.sizes known.is-legal).some_read)) u

  pub read-facts-at : (boards : List ℕ) → length boards ≡ b.sizes.k → different boards ≡ true → every (among b.service) boards ≡ true
      → Reads (book_record b) (length area) b.sizes.k boards × (file_held (book_record b) area boards ≡ some (file_of b.file))
  read-facts-at boards c d u =
      let w = some_written boards c u in
      let l : below b.sizes.n boards ≡ true = all-below b.sizes.n boards
      (all-imp (λ i. among b.service i ≡ true) (λ i. i < b.sizes.n) (λ i e. all_among (λ x. x < b.sizes.n) b.service i v.serving e) boards
      (every-all (among b.service) boards u)) in (
        record {
          is-sound = v.is-sound;
          area-is = v.as_long ∙ v.room w;
          is-written = w;
          count = c;
          named-below = l;
          all-different = d;
          all_up = every-same (in_service (book_record b)) (among b.service) boards (up laws b area v) ∙ u;
        },
        reading boards c l d u,
      )

module _ (laws : AllLaws) (b : Book) (area : List ℕ) (v : Inv b area) (packets : List ℕ) (g : Runs b b.repairing area packets) (p : Running) (tells : Tells b.sizes b.repairing p) where
  read_same : (boards output : List ℕ)
      → first store_order (read_lines_both (book_record b) p area boards output) ≡ first store_order (book_lines b (read boards output))
  unfolding store_lines read_lines_both read_lines book_lines
  read_same boards output =
      same_check laws b area v packets g p tells (read boards output) (λ off.
      ap (λ (o : Option (List ℕ)). not (given o))
      (reading laws b area v boards (eqb-true _ _ (not-no _ (off Count refl))) (not-no _ (off Node refl)) (not-no _ (off Repeat refl)) (not-no _ (off Down refl))))

  pub read-good : (boards output : List ℕ)
      → Good (packets_after packets (read boards output)) (act (at laws b area v packets g p tells) (read boards output)) (enter b (read boards output))
  unfolding act enter accept read_both read_lines_both read_lines
  read-good boards output =
      good-both (packets_after packets (read boards output)) _ _ _ _ _ _ (read_same boards output)
      (λ x. refusal-good laws b area v packets g p tells (packets_after packets (read boards output)) output [] x refl)
      (λ e. let f = (read-facts (book_record b) area boards output (alone (book_record b) p (drop 1 (read_lines (book_record b) area boards output)) e)).0 in
      let u : every (among b.service) boards ≡ true = sym (every-same (in_service (book_record b)) (among b.service) boards (up laws b area v)) ∙ f.all_up in
      rw (reading laws b area v boards f.count f.named-below f.all-different u)
      (record { alike = refl; same-record = refl; same-running = tells; inv = v; runs = g }))

  -- every read of k different boards in service with output long enough
  pub read-gives : (boards output : List ℕ) → length boards ≡ b.sizes.k → different boards ≡ true → every (among b.service) boards ≡ true
      → book_length b ≤ length output
      → read_both (book_record b) p area boards output
      ≡ beside p (accepted 0 (book_record b) area (over (file_of b.file) output))
  unfolding read_both read_lines_both read_lines
  read-gives boards output c d u r =
      let f = read-facts-at laws b area v boards c d u in
      let clear = reads-pass (book_record b) area boards output f.0 r (ap given f.1) in
      let q : first store_order (read_lines_both (book_record b) p area boards output) ≡ (Ok tt) =
      both-pass (book_record b) p (drop 1 (read_lines (book_record b) area boards output)) (both-off laws b area v packets g p tells) clear in
      settle-pass _ _ _ q
      ∙ ap (λ (x : Option (List ℕ)). beside p (accepted 0 (book_record b) area (over (file_of x) output))) f.1
