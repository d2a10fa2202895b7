-- Demand 1 at board level holds.
-- Assumes nothing.
use mathlib.Core.Path.{◌≡◌, refl, sym, ap, ◌∙◌}
use mathlib.Core.Bool.{Bool, true, false, not}
use mathlib.Core.Logic.{◌↔◌}
use mathlib.Core.Option.{Option, none, some}
use mathlib.Core.List.{List, [], ◌∷◌}
use Prim.Native.Nat.{ℕ, ◌*◌, ◌≤◌}
use native.Mathlib.Omega.{arith}
use lib.Dec.{eqb}
use lib.ListN.{length, take, length-take}
use lib.Seq.{take_at}
use borrow.Author.Tests.{ltb-false, le-ltb, eqb-true, eq-eqb}
use Rattle.lists.specs.Lists.{Bytes, over}
use Rattle.lists.specs.Tests.{pick, same, given}
use Rattle.lists.proofs.Pieces.{length-joined}
use Rattle.lists.proofs.Tests.{not-no, alls-hold, hold-alls}
use Rattle.sizes.specs.Refusals.{number, said, Line, applies_in, first, board_order, Check}
use Rattle.sizes.specs.Sizing.{stripes, legal, B, α}
use Rattle.std.specs.Prelude.{Ok, Err}
use Rattle.sizes.proofs.Orders.{◌also◌, stands, none-off, off-pass, Only, only-off, only-first}
use Rattle.sizes.specs.declared.Refusal.{Refusal}
use Rattle.sizes.specs.declared.Refusal.TheVariants.{Size, Count, Node, Repeat, Short, Disagree}
use Rattle.sizes.specs.declared.Sizes.{Sizes}
use Rattle.sizes.proofs.Legal.{Legal, legal-facts}
use Rattle.sizes.proofs.Lines.{clear_first, refuse-first, one-or-none, says-not, says_less, says-one, says_two, says-no-file}
use Rattle.mbcr.specs.Demand2.{Named}
use Rattle.mbcr.specs.Read.{decoded_file, read_file}
use Rattle.mbcr.specs.Rebuild.{helper_packet, exchange_packet, finished_share}
use Rattle.mbcr.specs.Share.{DifferentPoints, pointed, share, shares}
use Rattle.mbcr.proofs.PointLaws.{pointed-differ}
use Rattle.mbcr.proofs.Points.{Boards, boards-of}
use Rattle.mbcr.proofs.Read.{read-sound, read-complete, read_none}
use Rattle.mbcr.proofs.Repair.{length-share, length-packet, length-exchange, length-finished}
use Rattle.board_spec.specs.Calls.{BoardOutcome, settled, file_of, share_lines, share_call, file_lines, file_call, helper_lines, helper_call, exchange_lines, exchange_call}
use Rattle.board_spec.specs.Calls.{finished_lines, finished_call, text_lines, text_call}
use Rattle.board_spec.specs.Claims.{LinesSay}
use Rattle.board_spec.specs.Demand1.{BoardEnds, BoardCalls, share_claims, file_claims, helper_claims, exchange_claims, finished_claims, text_claims}
use Rattle.board_spec.specs.Text.{share_text}
use Rattle.board_spec.proofs.Claims.{◌and◌, end, lines-say, says-either}
use Rattle.board_spec.proofs.Runs.{legal-of, points-of, named}

-- ---- lines that do not hold

-- the lines that the proofs ask
record Passed (lines : List Line) : Type 0 where
  size : applies_in lines Size ≡ false
  count : applies_in lines Count ≡ false
  node : applies_in lines Node ≡ false
  repeat : applies_in lines Repeat ≡ false
  short : applies_in lines Short ≡ false

-- of a call of which all lines but perhaps DISAGREE are off
abbrev passed : (lines : List Line) → ((x : Refusal) → stands board_order x ≡ true → eqb (number x) (number Disagree) ≡ false → applies_in lines x ≡ false) → Passed lines
passed lines off = record { size = off Size refl refl; count = off Count refl refl; node = off Node refl refl; repeat = off Repeat refl refl; short = off Short refl refl }

-- what COUNT asks
counted : (a b : ℕ) → not (pick (eqb a b) true false) ≡ false → a ≡ b
counted a b h = eqb-true a b (alls-hold (eqb a b ∷ []) (not-no _ h)).0

-- ---- every call ends

ends : (lines : List Line) (output bytes : List ℕ) → (Passed lines → length bytes ≤ length output)
    → BoardEnds lines output bytes (settled (first board_order lines) bytes output)
ends lines output bytes f = record {
  one = one-or-none lines board_order;
  refuses = λ x h. ap (λ (c : Check). settled c bytes output) (refuse-first lines board_order x h);
  works = λ h. (ap (λ (c : Check). settled c bytes output) (clear_first lines board_order h), f (passed lines (λ x s _. none-off lines board_order h x s)));
}

length-file-of : (t : Bool) (L : ℕ) (l : List ℕ) → length (file_of (pick t (some (take L l)) none)) ≤ L
length-file-of true L l = simp length-take (omega arith)
length-file-of false L l = omega arith

module _ (z : Sizes) (xs : List ℕ) where
  share-ends : (node : ℕ) (file output : List ℕ)
      → BoardEnds (share_lines z xs node file output) output (share z xs file node) (share_call z xs node file output)
  unfolding share_lines share_call
  share-ends node file output = ends _ output _ (λ p. rw (length-share z xs (legal-of z xs p.size) file node) (ltb-false _ _ p.short))

  length-read : (L : ℕ) (boards held : List ℕ) → length (file_of (read_file z xs L boards held)) ≤ L
  unfolding read_file decoded_file
  length-read L boards held = length-file-of (same (shares z xs (decoded_file z xs L boards held) boards) held) L _

  file-ends : (L : ℕ) (boards held output : List ℕ)
      → BoardEnds (file_lines z xs L boards held output) output (file_of (read_file z xs L boards held)) (file_call z xs L boards held output)
  unfolding file_lines file_call
  file-ends L boards held output = ends _ output _ (λ p. omega (arith, length-read L boards held, ltb-false (length output) L p.short))

  helper-ends : (L helper receiver : ℕ) (held output : List ℕ)
      → BoardEnds (helper_lines z xs L helper receiver held output) output (helper_packet z xs (stripes z L) helper receiver held) (helper_call z xs L helper receiver held output)
  unfolding helper_lines helper_call
  helper-ends L helper receiver held output = ends _ output _ (λ p. rw (length-packet z xs (stripes z L) helper receiver held) (ltb-false _ _ p.short))

  exchange-ends : (L board : ℕ) (helpers packets : List ℕ) (receiver : ℕ) (output : List ℕ)
      → BoardEnds (exchange_lines z xs L board helpers packets receiver output) output (exchange_packet z xs (stripes z L) helpers packets receiver)
      (exchange_call z xs L board helpers packets receiver output)
  unfolding exchange_lines exchange_call
  exchange-ends L board helpers packets receiver output =
      ends _ output _ (λ p. rw (length-exchange z xs (stripes z L) helpers packets receiver) (ltb-false _ _ p.short))

  finished-ends : (L board : ℕ) (helpers packets partners exchanges output : List ℕ)
      → BoardEnds (finished_lines z xs L board helpers packets partners exchanges output) output (finished_share z xs (stripes z L) board helpers packets partners exchanges)
      (finished_call z xs L board helpers packets partners exchanges output)
  unfolding finished_lines finished_call
  finished-ends L board helpers packets partners exchanges output =
      ends _ output _ (λ p. rw (length-finished z xs (legal-of z xs p.size) (stripes z L) board helpers packets partners exchanges) (ltb-false _ _ p.short))

  text-ends : (L node : ℕ) (held output : List ℕ)
      → BoardEnds (text_lines z xs L node held output) output (share_text z xs L node held) (text_call z xs L node held output)
  unfolding text_lines text_call
  text-ends L node held output = ends _ output _ (λ p. ltb-false (length output) (length (share_text z xs L node held)) p.short)

-- ---- a file is given just where there is one

-- the outcome of a call that found this file, or none
abbrev outcome : Option (List ℕ) → List ℕ → BoardOutcome
outcome (some file) output = record { answer = said (Ok (length file)); output = over file output }
outcome none output = record { answer = said (Err Disagree); output = output }

found : (o : Option (List ℕ)) (output : List ℕ) → settled (pick (not (given o)) (Err Disagree) (Ok tt)) (file_of o) output ≡ outcome o output
found (some file) output = refl
found none output = refl

-- what was written is the file
pub written : (file file' output : List ℕ) → length file ≡ length file' → over file output ≡ over file' output → file ≡ file'
written file file' output l e =
    sym (take_at file _ (length file') l) ∙ ap (take (length file')) e ∙ take_at file' _ (length file') refl

module _ (z : Sizes) (xs : List ℕ) (L : ℕ) (boards held output : List ℕ) (bh : Bytes held)
    (h : Only (file_lines z xs L boards held output) Disagree board_order) where
  others : Passed (file_lines z xs L boards held output)
  others = passed (file_lines z xs L boards held output) (only-off (file_lines z xs L boards held output) Disagree board_order h)

  facts : Legal z
  unfolding file_lines
  facts = legal-of z xs others.size

  pts : DifferentPoints z xs
  unfolding file_lines
  pts = points-of z xs others.size

  count : length boards ≡ z.k
  unfolding file_lines
  count = counted (length boards) z.k others.count

  boards-named : Boards z boards
  unfolding file_lines
  boards-named = named z boards others.node others.repeat

  call-is : (o : Option (List ℕ)) → read_file z xs L boards held ≡ o → file_call z xs L boards held output ≡ outcome o output
  unfolding file_lines file_call
  call-is o e =
      ap (λ (c : Check). settled c (file_of (read_file z xs L boards held)) output) (only-first (file_lines z xs L boards held output) Disagree board_order refl h)
      ∙ found (read_file z xs L boards held) output ∙ ap (λ (o : Option (List ℕ)). outcome o output) e

  gives : (file : List ℕ) → length file ≡ L → Bytes file
      → (file_call z xs L boards held output ≡ record { answer = said (Ok L); output = over file output }) ↔ (shares z xs file boards ≡ held)
  gives file l bf = (there (read_file z xs L boards held) refl, back)
    where
      there : (o : Option (List ℕ)) → read_file z xs L boards held ≡ o
          → file_call z xs L boards held output ≡ record { answer = said (Ok L); output = over file output } → shares z xs file boards ≡ held
      there none e q = absurd (omega (arith, ap (λ (o : BoardOutcome). o.answer.refusal) (sym (call-is none e) ∙ q)))
      there (some f) e q =
          let s = read-sound z xs facts pts boards boards-named count L held f bh e in
          ap (λ (f : List ℕ). shares z xs f boards) (sym (written f file output (s.0 ∙ sym l) (ap (λ (o : BoardOutcome). o.output) (sym (call-is (some f) e) ∙ q)))) ∙ s.2

      back : shares z xs file boards ≡ held → file_call z xs L boards held output ≡ record { answer = said (Ok L); output = over file output }
      back e = call-is (some file) (read-complete z xs facts pts boards boards-named count L held file l bf e) ∙ ap (λ (v : ℕ). record { answer = said (Ok v); output = over file output }) l

  refuses : (file_call z xs L boards held output ≡ record { answer = said (Err Disagree); output = output })
      ↔ ((file : List ℕ) → length file ≡ L → Bytes file → shares z xs file boards ≡ held → ⊥)
  refuses = (λ q. none_is.0 (there (read_file z xs L boards held) refl q), λ f. call-is none (none_is.1 f))
    where
      none_is : (read_file z xs L boards held ≡ none) ↔ ((file : List ℕ) → length file ≡ L → Bytes file → shares z xs file boards ≡ held → ⊥)
      none_is = read_none z xs facts pts boards boards-named count L held bh

      there : (o : Option (List ℕ)) → read_file z xs L boards held ≡ o
          → file_call z xs L boards held output ≡ record { answer = said (Err Disagree); output = output } → read_file z xs L boards held ≡ none
      there none e q = e
      there (some f) e q = absurd (omega (arith, ap (λ (o : BoardOutcome). o.answer.refusal) (sym (call-is (some f) e) ∙ q)))

-- ---- what the lines say

module _ (z : Sizes) (xs : List ℕ) where
  share-lines : (node : ℕ) (file output : List ℕ) → LinesSay (share_lines z xs node file output) (share_claims z xs node file output)
  unfolding share_lines
  share-lines node file output =
      lines-say (share_lines z xs node file output) (share_claims z xs node file output)
      (says-either _ _ and says_less _ _ and says-not _ and says_less _ _ and end)

  file-lines : (L : ℕ) (boards held output : List ℕ) → LinesSay (file_lines z xs L boards held output) (file_claims z xs L boards held output)
  unfolding file_lines
  file-lines L boards held output =
      lines-say (file_lines z xs L boards held output) (file_claims z xs L boards held output)
      (says-either _ _
      and says_less _ _
      and says-one _ _
      and says-not _
      and says-not _
      and says-one _ _
      and says_less _ _
      and says-no-file _
      and end)

  helper-lines : (L helper receiver : ℕ) (held output : List ℕ)
      → LinesSay (helper_lines z xs L helper receiver held output) (helper_claims z xs L helper receiver held output)
  unfolding helper_lines
  helper-lines L helper receiver held output =
      lines-say (helper_lines z xs L helper receiver held output) (helper_claims z xs L helper receiver held output)
      (says-either _ _ and says_less _ _ and says-not _ and says-not _ and says-one _ _ and says_less _ _ and end)

  exchange-lines : (L board : ℕ) (helpers packets : List ℕ) (receiver : ℕ) (output : List ℕ)
      → LinesSay (exchange_lines z xs L board helpers packets receiver output) (exchange_claims z xs L board helpers packets receiver output)
  unfolding exchange_lines
  exchange-lines L board helpers packets receiver output =
      lines-say (exchange_lines z xs L board helpers packets receiver output) (exchange_claims z xs L board helpers packets receiver output)
      (says-either _ _
      and says_less _ _
      and says-one _ _
      and says-not _
      and says-not _
      and says-one _ _
      and says_less _ _
      and end)

  finished-lines : (L board : ℕ) (helpers packets partners exchanges output : List ℕ)
      → LinesSay (finished_lines z xs L board helpers packets partners exchanges output) (finished_claims z xs L board helpers packets partners exchanges output)
  unfolding finished_lines
  finished-lines L board helpers packets partners exchanges output =
      lines-say (finished_lines z xs L board helpers packets partners exchanges output) (finished_claims z xs L board helpers packets partners exchanges output)
      (says-either _ _
      and says_less _ _
      and says_two _ _ _ _
      and says-not _
      and says-not _
      and says_two _ _ _ _
      and says_less _ _
      and end)

  text-lines : (L node : ℕ) (held output : List ℕ) → LinesSay (text_lines z xs L node held output) (text_claims z xs L node held output)
  unfolding text_lines
  text-lines L node held output =
      lines-say (text_lines z xs L node held output) (text_claims z xs L node held output)
      (says-either _ _ and says_less _ _ and says-not _ and says-one _ _ and says_less _ _ and end)

-- ---- the reader gives the file

module _ (z : Sizes) (xs file boards output : List ℕ) (ok : legal z ≡ true) (taken : pointed z xs ≡ true) (bf : Bytes file) (few : length file ≤ 4096 * B z)
    (h : Named z z.k boards) (room : length file ≤ length output) where
  found-file : read_file z xs (length file) boards (shares z xs file boards) ≡ some file
  found-file = read-complete z xs (legal-facts z ok) (pointed-differ z xs ok taken) boards (boards-of z boards h.1 h.2) h.0 (length file) (shares z xs file boards) file refl bf refl

  shares-long : length (shares z xs file boards) ≡ z.k * (stripes z (length file) * α z)
  unfolding shares
  shares-long = length-joined (stripes z (length file) * α z) (share z xs file) (λ i. length-share z xs (legal-facts z ok) file i) boards
      ∙ ap (λ (m : ℕ). m * (stripes z (length file) * α z)) h.0

  reader-gives : file_call z xs (length file) boards (shares z xs file boards) output ≡ record { answer = said (Ok (length file)); output = over file output }
  unfolding file_call file_lines
  reader-gives =
      let held : List ℕ = shares z xs file boards in
      let c : first board_order (file_lines z xs (length file) boards held output) ≡ (Ok tt) = off-pass (file_lines z xs (length file) boards held output) board_order
      (ap not (hold-alls (legal z ∷ pointed z xs ∷ []) (ok, (taken, tt)))
      also le-ltb _ _ few
      also ap not (hold-alls (eqb (length boards) z.k ∷ []) (eq-eqb _ _ h.0, tt))
      also ap not h.1
      also ap not h.2
      also ap not (hold-alls (eqb (length held) (z.k * (stripes z (length file) * α z)) ∷ []) (eq-eqb _ _ shares-long, tt))
      also le-ltb _ _ room
      also ap (λ (o : Option (List ℕ)). not (given o)) found-file
      also tt) in
      ap (λ (x : Check). settled x (file_of (read_file z xs (length file) boards held)) output) c
      ∙ ap (λ (o : Option (List ℕ)). record { answer = said (Ok (length (file_of o))); output = over (file_of o) output }) found-file

pub demand-1 : BoardCalls
demand-1 = record {
  share-lines = share-lines;
  file-lines = file-lines;
  helper-lines = helper-lines;
  exchange-lines = exchange-lines;
  finished-lines = finished-lines;
  text-lines = text-lines;
  reader-gives = reader-gives;
  share-ends = share-ends;
  file-ends = file-ends;
  helper-ends = helper-ends;
  exchange-ends = exchange-ends;
  finished-ends = finished-ends;
  text-ends = text-ends;
  file-exact = λ z xs L boards held output bh h. (gives z xs L boards held output bh h, refuses z xs L boards held output bh h);
}
