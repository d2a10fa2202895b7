-- The text reader's outcome, by the head of the text.
-- Assumes nothing.
use mathlib.Core.Path.{◌≡◌, sym, ap, ap₂, ◌∙◌}
use mathlib.Core.Bool.{Bool, true, false, not}
use mathlib.Core.Logic.{◌≢◌}
use mathlib.Core.Option.{Option, some, none}
use mathlib.Core.List.{List, [], ◌∷◌, ◌++◌}
use Prim.Native.Nat.{ℕ, ◌+◌, ◌*◌, ◌-◌, ◌≤◌, ◌<◌}
use native.Mathlib.Omega.{arith}
use lib.Dec.{eqb}
use lib.ListN.{length, take, drop, length-drop}
use lib.Seq.{length-take-le}
use borrow.Author.Tests.{lt-ltb, le-ltb, eq-eqb, ne_eqb}
use Rattle.lists.specs.Tests.{pick, given}
use Rattle.lists.specs.Lists.{over}
use Rattle.lists.proofs.Pieces.{length-tabulate}
use Rattle.sizes.specs.declared.Refusal.TheVariants.{Text, Short}
use Rattle.std.specs.Prelude.{Ok, Err}
use Rattle.sizes.specs.Refusals.{said, ◌when◌, first, board_order}
use Rattle.board_spec.specs.Calls.{short_line}
use Rattle.text_spec.specs.Texts.{ShareTold, whole, read_text}
use Rattle.text_spec.specs.Calls.{blank, told_of, ReadOutcome, giving, read_settled, read_text_lines, read_text_call}
use Rattle.text_in.specs.Steps.{pair_at, bytes_at}
use Rattle.text_head.specs.declared.Head.{Head}
use Rattle.text_head.specs.Steps.{told_by, Stands}

module _ (text : List ℕ) (output : List ℕ) where
  abbrev by : Option ShareTold → ReadOutcome
  by o = read_settled (first board_order (Text when not (given o) ∷ short_line output (length (told_of o).share) ∷ [])) (told_of o) output

  call_by : (o : Option ShareTold) → read_text text ≡ o → read_text_call text output ≡ by o
  unfolding read_text_call read_text_lines
  call_by o e = ap by e

  -- no text
  pub no_text : read_text text ≡ none → giving (said (Err Text)) blank output ≡ read_text_call text output
  no_text e = sym (call_by none e)

  module _ (h : Head) (s : Stands text 0 h) where
    not_there : h.ok ≡ false → read_text text ≡ none
    unfolding read_text
    not_there e = ap whole (s.is-text ∙ ap (λ (t : Bool). pick t (some (record { told = told_by text h; behind = drop h.next text })) none) e)

    there : h.ok ≡ true → read_text text ≡ pick (eqb (length (drop h.next text)) 0) (some (told_by text h)) none
    unfolding read_text
    there e = ap whole (s.is-text ∙ ap (λ (t : Bool). pick t (some (record { told = told_by text h; behind = drop h.next text })) none) e)

    pub refuses-lines : h.ok ≡ false → giving (said (Err Text)) blank output ≡ read_text_call text output
    refuses-lines e = no_text (not_there e)

    pub refuses-behind : h.ok ≡ true → h.next ≢ length text → giving (said (Err Text)) blank output ≡ read_text_call text output
    refuses-behind e n =
        let l = length-drop h.next text in
        let q : length (drop h.next text) ≢ 0 = λ z. n (omega (arith, l, z, s.ends e)) in
        no_text (there e ∙ ap (λ (t : Bool). pick t (some (told_by text h)) none) (ne_eqb _ 0 q))

    module _ (e : h.ok ≡ true) (w : h.next ≡ length text) where
      told : read_text text ≡ some (told_by text h)
      told =
          let z : length (drop h.next text) ≡ 0 = length-drop h.next text ∙ (let m : length text - h.next ≡ 0 = omega (arith, w) in m) in
          there e ∙ ap (λ (t : Bool). pick t (some (told_by text h)) none) (eq-eqb _ 0 z)

      long : length (told_by text h).share ≡ h.count
      long = length-tabulate h.count (λ j. pair_at text (h.place + 2 * j))

      pub refuses-short : length output < h.count → giving (said (Err Short)) blank output ≡ read_text_call text output
      refuses-short l =
          sym (call_by (some (told_by text h)) told
          ∙ ap (λ (b : Bool). read_settled (first board_order (Text when false ∷ Short when b ∷ [])) (told_by text h) output)
          (lt-ltb (length output) (length (told_by text h).share) (omega (arith, l, long))))

      pub works : h.count ≤ length output → (written : List ℕ) → written ≡ bytes_at text h.place (length (take (h.count - 0) output)) ++ drop (h.count - 0) output
          → giving (said (Ok h.count)) (told_by text h) written ≡ read_text_call text output
      works l written q =
          let m : h.count - 0 ≡ h.count = omega arith in
          let p : length (take (h.count - 0) output) ≡ h.count = length-take-le (h.count - 0) output (omega (arith, l)) ∙ m in
          let share-is : written ≡ over (told_by text h).share output =
          q ∙ ap₂ {C = List ℕ} (λ (a b : ℕ). bytes_at text h.place a ++ drop b output) p (m ∙ sym long) in
          ap₂ {C = ReadOutcome} (λ (c : ℕ) (out : List ℕ). giving (said (Ok c)) (told_by text h) out) (sym long) share-is
          ∙ sym (call_by (some (told_by text h)) told
          ∙ ap (λ (b : Bool). read_settled (first board_order (Text when false ∷ Short when b ∷ [])) (told_by text h) output)
          (le-ltb (length output) (length (told_by text h).share) (omega (arith, l, long))))
