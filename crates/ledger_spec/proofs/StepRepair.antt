-- A repair: store and ledger reply alike, and fresh boards then hold their shares.
-- Assumes nothing.
use Prim.Native.Nat.{ℕ, ◌<◌}
use mathlib.Core.Path.{◌≡◌, refl, sym, ◌∙◌, ap}
use mathlib.Core.Bool.{Bool, true, false}
use mathlib.Core.List.{List, [], ◌++◌}
use lib.ListN.{length, drop}
use Rattle.lists.specs.Lists.{All}
use Rattle.lists.specs.Tests.{among, given}
use Rattle.lists.proofs.Alls.{all_left, append-all}
use Rattle.lists.proofs.Boards.{below_all, all_among, among-append-none}
use Rattle.lists.proofs.Tests.{true-false}
use Rattle.sizes.specs.Refusals.{first, store_order, said}
use Rattle.std.specs.Prelude.{Ok}
use Rattle.mbcr.specs.Share.{share}
use Rattle.board_spec.specs.Calls.{file_of}
use Rattle.store_spec.specs.Calls.{list_lines, repair_lines, repair_done}
use Rattle.beside_spec.specs.Running.{Running}
use Rattle.beside_spec.specs.Both.{repair_lines_both, repair_both}
use Rattle.beside_spec.specs.BothCalls.{store_lines}
use Rattle.ledger_spec.specs.Ledger.{Book, book_record, Tells, book_lines, repair_asked, noted, packets_after, enter, accept}
use Rattle.beside_spec.specs.Acting.{act, repair}
use Rattle.store_spec.specs.Packets.{fresh_share}
use Rattle.store_spec.specs.Record.{used_len, held, put_shares, with_marks}
use Rattle.store_spec.proofs.Area.{length-shares, shares-same, shares-other}
use Rattle.store_spec.proofs.Marks.{marks-on}
use Rattle.store_spec.proofs.Records.{Sound, Repairs, used-fits, facts-sound, repair-facts}
use Rattle.store_spec.proofs.Repair.{fresh-length, true-share, moved-is}
use Rattle.store_spec.proofs.Seam.{AllLaws}
use Rattle.ledger_spec.proofs.Step.{Inv, Runs, runs_none, noted-sound, facts, up, lawful, at, same_check, none_runs, Good, good-both, refusal-good}
use Rattle.beside_spec.proofs.Beside.{alone-busy}

-- ---- the call

module _ (laws : AllLaws) (b : Book) (area : List ℕ) (v : Inv b area) where
  known : Sound (book_record b)
  known = facts laws b area v

  pub repair-inv : (fresh helpers stand_ins : List ℕ) → Repairs (book_record b) (length area) fresh helpers stand_ins
      → Inv (noted b b.file (fresh ++ b.service)) (repair_done (book_record b) area fresh helpers stand_ins).area
  repair-inv fresh helpers stand_ins f =
      record {
        as_long = length-shares (book_record b) made (used_len (book_record b)) long (used-fits (book_record b) known) fresh area f.area-is low ∙ v.as_long;
        is-sound = facts-sound (book_record (noted b b.file (fresh ++ b.service)))
            (noted-sound b known b.points b.file (fresh ++ b.service) known.is-pointed known.fits serve (λ w. absurd (true-false f.is-written w)));
        bytes = v.bytes;
        serving = serve;
        room = v.room;
        holds = λ i e. held_by i (among fresh i) refl e;
      }
    where
      made : ℕ → List ℕ
      made = fresh_share (book_record b) area fresh helpers stand_ins

      long : (i : ℕ) → length (made i) ≡ used_len (book_record b)
      long = fresh-length (book_record b) area fresh helpers stand_ins (length area) (lawful laws b area v).lengths f

      low : All (λ i. i < b.sizes.n) fresh
      low = all_left (λ i. i < b.sizes.n) fresh (helpers ++ stand_ins) (below_all b.sizes.n (fresh ++ (helpers ++ stand_ins)) f.named-below)

      serve : All (λ i. i < b.sizes.n) (fresh ++ b.service)
      serve = append-all (λ i. i < b.sizes.n) fresh b.service low v.serving

      held_by : (i : ℕ) (t : Bool) → among fresh i ≡ t → among (fresh ++ b.service) i ≡ true
          → held (book_record b) (put_shares (book_record b) made fresh area) i ≡ share b.sizes b.points (file_of b.file) i
      held_by i true q e =
          shares-same (book_record b) made (used_len (book_record b)) long (used-fits (book_record b) known) fresh area f.area-is low i q
          ∙ true-share (book_record b) area fresh helpers stand_ins (length area) (lawful laws b area v).lengths f (lawful laws b area v) (file_of b.file) v.bytes refl
          (λ j u. v.holds j (sym (up laws b area v j) ∙ u)) i q
      held_by i false q e =
          let o : among b.service i ≡ true = sym (among-append-none fresh b.service i q) ∙ e in
          shares-other (book_record b) made (used_len (book_record b)) long (used-fits (book_record b) known) fresh area f.area-is low i (used_len (book_record b))
          (all_among (λ x. x < b.sizes.n) b.service i v.serving o) q (used-fits (book_record b) known)
          ∙ v.holds i o

module _ (laws : AllLaws) (b : Book) (area : List ℕ) (v : Inv b area) (packets : List ℕ) (g : Runs b b.repairing area packets) (p : Running) (tells : Tells b.sizes b.repairing p) where
  pub asked-same : (fresh helpers stand_ins : List ℕ)
      → first store_order (repair_lines_both (book_record b) p (length area) fresh helpers stand_ins) ≡ first store_order (repair_asked b fresh helpers stand_ins)
  unfolding store_lines repair_lines_both repair_lines list_lines book_lines repair_asked
  asked-same fresh helpers stand_ins = same_check laws b area v packets g p tells (repair fresh helpers stand_ins) (λ _. refl)

  -- a repair or start that is taken: none runs, and its lists pass
  pub asked-alone : (fresh helpers stand_ins : List ℕ) → first store_order (repair_lines_both (book_record b) p (length area) fresh helpers stand_ins) ≡ Ok tt
      → (first store_order (repair_lines (book_record b) (length area) fresh helpers stand_ins) ≡ Ok tt) × (given b.repairing ≡ false)
  unfolding repair_lines_both repair_lines list_lines
  asked-alone fresh helpers stand_ins e =
      let a = alone-busy (book_record b) p p.running (drop 1 (repair_lines (book_record b) (length area) fresh helpers stand_ins)) refl e in
      (a.0, none_runs laws b area v packets g p tells a.1)

  pub repair-good : (fresh helpers stand_ins : List ℕ)
      → Good (packets_after packets (repair fresh helpers stand_ins)) (act (at laws b area v packets g p tells) (repair fresh helpers stand_ins)) (enter b (repair fresh helpers stand_ins))
  unfolding act enter accept repair_both book_lines
  repair-good fresh helpers stand_ins =
      good-both (packets_after packets (repair fresh helpers stand_ins)) _ _ _ _ _ _ (asked-same fresh helpers stand_ins)
      (λ x. refusal-good laws b area v packets g p tells (packets_after packets (repair fresh helpers stand_ins)) [] [] x refl)
      (λ e. let a = asked-alone fresh helpers stand_ins e in
      let f = repair-facts (book_record b) (length area) fresh helpers stand_ins a.0 in
      record {
        alike = ap (λ (m : ℕ). record { answer = said (Ok m); output = [] })
            (moved-is (book_record b) area fresh helpers stand_ins (length area) (lawful laws b area v).lengths f);
        same-record = ap (with_marks (book_record b)) (marks-on fresh b.service);
        same-running = tells;
        inv = repair-inv laws b area v fresh helpers stand_ins f;
        runs = runs_none _ b.repairing _ _ a.1;
      })
