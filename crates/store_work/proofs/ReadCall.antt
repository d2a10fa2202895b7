-- A read, at the record's points: what it hands on where its check refuses, and where it passes.
-- Assumes nothing.
use Prim.Native.Nat.{ℕ, ◌≤◌}
use mathlib.Core.Path.{◌≡◌, refl, sym, ap, ◌∙◌}
use mathlib.Core.Bool.{true, not}
use mathlib.Core.List.{List, [], ◌∷◌, ◌++◌}
use lib.ListN.{length, drop}
use borrow.Author.Tests.{eqb-true}
use Rattle.lists.specs.Lists.{joined}
use Rattle.lists.specs.Tests.{given}
use Rattle.lists.proofs.Tests.{not-no}
use Rattle.sizes.specs.declared.Refusal.{Refusal}
use Rattle.sizes.specs.declared.Refusal.TheVariants.{Size, Area, Count, Node, Repeat, Empty, Down, Disagree}
use Rattle.std.specs.Prelude.{Ok, Err}
use Rattle.sizes.specs.Refusals.{◌when◌, first, store_order, Check}
use Rattle.sizes.proofs.Legal.{legal-facts}
use Rattle.sizes.proofs.Orders.{clear-off}
use Rattle.mbcr.specs.Read.{decoded_file}
use Rattle.mbcr.proofs.Read.{length-decoded-file}
use Rattle.board_spec.specs.Calls.{file_of}
use Rattle.board_spec.proofs.Files.{file-is}
use Rattle.store_spec.specs.Record.{Record, held}
use Rattle.store_spec.specs.Calls.{accepted, file_held, read_lines, read_done}
use Rattle.beside_spec.specs.Running.{Running}
use Rattle.beside_spec.specs.Both.{Outcome, beside, read_lines_both, read_both}
use Rattle.store_spec.proofs.Records.{sound-facts, reads-by, read-facts}
use Rattle.beside_spec.proofs.Beside.{both_facts, alone}
use Rattle.line_checks.specs.Steps.{asked}
use Rattle.board_lines.proofs.Chain.{then, split, goes-on, refuses}
use Rattle.store_lines.specs.Steps.{record_of}
use Rattle.check_read.specs.Steps.{asked_lines}
use Rattle.store_work.specs.Handing.{turned_down}
use Rattle.store_work.specs.Steps.{Readable}
use Rattle.store_work.proofs.Readable.{readable}
use Rattle.store_work.proofs.Settled.{refused-by, done-by}

-- the work alone, of a read that passes
module _ (s : Record) (area boards output : List ℕ) where
  pub read-readable : first store_order (read_lines s area boards output) ≡ Ok tt → Readable s (length area) boards
  read-readable h = readable s (length area) boards (read-facts s area boards output h).0

  pub read-room : first store_order (read_lines s area boards output) ≡ Ok tt → s.length ≤ length output
  read-room h = (read-facts s area boards output h).1

  -- the bytes that these boards' shares decode to, before the rest of the output
  abbrev pub decoded : List ℕ
  decoded =
      decoded_file s.sizes s.points s.length boards (joined (held (record_of s.sizes [] s.capacity true s.length []) area) boards)
      ++ drop s.length output

  pub read-decodes : (written : List ℕ) → first store_order (read_lines s area boards output) ≡ Ok tt → written ≡ decoded
      → written ≡ (read_done s area boards output).output
  read-decodes written h e =
      let z = s.sizes in
      let xs = s.points in
      let L = s.length in
      let H = joined (held s area) boards in
      let F = file_of (file_held s area boards) in
      let k = read-facts s area boards output h in
      let f = legal-facts z (sound-facts s k.0.is-sound).is-legal in
      let read : F ≡ decoded_file z xs L boards H = file-is z xs L boards H k.2 in
      let long : length F ≡ L = ap length read ∙ length-decoded-file z xs f boards k.0.count L H in
      e ∙ ap (λ (l : List ℕ). l ++ drop L output) (sym read) ∙ ap (λ (m : ℕ). F ++ drop m output) (sym long)

module _ (s : Record) (p : Running) (area boards output : List ℕ) where
  abbrev pub checked : Check
  checked = first store_order (read_lines_both s p area boards output)

  -- the lines before DISAGREE, and DISAGREE
  abbrev pub begins : Check
  begins = first store_order (asked_lines s p (length area) boards output)

  abbrev pub agrees : Check
  agrees = asked (Disagree when not (given (file_held s area boards)))

  in-turn : then begins agrees ≡ checked
  unfolding read_lines_both read_lines
  in-turn = sym (split (asked_lines s p (length area) boards output) (Disagree when not (given (file_held s area boards)) ∷ []))

  pub read-refuses : {r : Check} {x : Refusal} → r ≡ begins → r ≡ Err x → turned_down s p area output [] x ≡ read_both s p area boards output
  unfolding read_both
  read-refuses e h = refused-by (turned_down s p area output []) (beside p (read_done s area boards output)) (refuses agrees in-turn e h) refl

  pub read-disagrees : {r q : Check} {x : Refusal} → r ≡ begins → r ≡ Ok tt → q ≡ agrees → q ≡ Err x
      → turned_down s p area output [] x ≡ read_both s p area boards output
  unfolding read_both
  read-disagrees e h d k = refused-by (turned_down s p area output []) (beside p (read_done s area boards output)) (d ∙ goes-on in-turn e h) k

  pub read-passes : {r q : Check} → r ≡ begins → r ≡ Ok tt → q ≡ agrees → q ≡ Ok tt → checked ≡ Ok tt
  read-passes e h d k = sym (d ∙ goes-on in-turn e h) ∙ k

  -- what the lines before DISAGREE told
  pub read-asks : begins ≡ Ok tt → Readable s (length area) boards
  read-asks h =
      let off = clear-off (asked_lines s p (length area) boards output) store_order h in
      readable s (length area) boards
      (reads-by s (length area) s.sizes.k boards (both_facts s p (off Size refl)).0 (off Area refl) (off Empty refl) (eqb-true _ _ (not-no _ (off Count refl))) (off Node refl)
      (off Repeat refl) (off Down refl))

  -- the call alone passes too
  pub read-alone : checked ≡ Ok tt → first store_order (read_lines s area boards output) ≡ Ok tt
  unfolding read_lines_both read_lines
  read-alone h = alone s p (drop 1 (read_lines s area boards output)) h

  -- what a read hands on with these bytes
  abbrev pub filled : List ℕ → Outcome
  filled bytes = beside p (accepted 0 s area bytes)

  pub read-works : (written : List ℕ) → checked ≡ Ok tt → written ≡ (read_done s area boards output).output → filled written ≡ read_both s p area boards output
  unfolding read_both
  read-works written h e = ap filled e ∙ done-by (turned_down s p area output []) (beside p (read_done s area boards output)) h
