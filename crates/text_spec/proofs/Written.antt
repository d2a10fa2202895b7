-- What is writable is what the share-as-text call writes.
-- Assumes nothing.
use mathlib.Core.Path.{◌≡◌, refl, ap}
use mathlib.Core.Bool.{true}
use mathlib.Core.Logic.{◌↔◌}
use mathlib.Core.List.{List, [], ◌∷◌}
use Prim.Native.Nat.{ℕ, ◌*◌}
use native.Mathlib.Omega.{arith}
use lib.Dec.{eqb}
use lib.ListN.{length}
use borrow.Author.Tests.{ltb-false, le-ltb, lt-ltb, leb-true, le-leb, eqb-true, eq-eqb}
use Rattle.lists.specs.Lists.{over}
use Rattle.lists.proofs.Boards.{below_all}
use Rattle.lists.proofs.Tests.{alls-hold, not-no}
use Rattle.std.specs.Prelude.{Ok, Err}
use Rattle.sizes.specs.declared.Refusal.TheVariants.{Size, Long, Node, Area}
use Rattle.sizes.specs.Refusals.{said, first, board_order, Check}
use Rattle.sizes.specs.Sizing.{α, B, stripes}
use Rattle.sizes.proofs.Laws.{number-low}
use Rattle.sizes.proofs.Orders.{clear-off}
use Rattle.board_spec.specs.Calls.{BoardOutcome, settled, text_lines, text_call}
use Rattle.board_spec.proofs.Runs.{size-facts}
use Rattle.text_spec.specs.Texts.{ShareTold, text_of, writable}
use Rattle.text_spec.specs.Laws.{ReadLaws}
use Rattle.text_spec.proofs.Laws.{Facts, facts-of, of-facts, writes_reads, reads-writes, one-text, text-told, texts-told}

module _ (t : ShareTold) where
  abbrev call : List ℕ → BoardOutcome
  call output = text_call t.sizes t.points t.length t.node t.share output

  -- no line holds with room for the text
  passes : Facts t → first board_order (text_lines t.sizes t.points t.length t.node t.share (text_of t)) ≡ Ok tt
  unfolding text_lines
  passes f =
      rw (
        f.is-legal,
        f.is-pointed,
        le-ltb (4096 * B t.sizes) t.length (leb-true _ _ f.not-long),
        f.known,
        eq-eqb (length t.share) (stripes t.sizes t.length * α t.sizes) f.long,
        le-ltb (length (text_of t)) (length (text_of t)) (omega arith),
      )

  there : writable t ≡ true → (call (text_of t)).answer.refusal ≡ 0
  unfolding text_call
  there h = ap (λ (c : Check). (settled c (text_of t) (text_of t)).answer.refusal) (passes (facts-of t h))

  passed : (output : List ℕ) → first board_order (text_lines t.sizes t.points t.length t.node t.share output) ≡ Ok tt → Facts t
  unfolding text_lines
  passed output p =
      let off = clear-off (text_lines t.sizes t.points t.length t.node t.share output) board_order p in
      let s = size-facts t.sizes t.points (off Size refl) in
      record {
        is-legal = s.0;
        not-long = le-leb t.length (4096 * B t.sizes) (ltb-false (4096 * B t.sizes) t.length (off Long refl));
        known = lt-ltb t.node t.sizes.n (below_all t.sizes.n (t.node ∷ []) (not-no _ (off Node refl))).0;
        is-pointed = s.1;
        long = eqb-true _ _ (alls-hold (eqb (length t.share) (stripes t.sizes t.length * α t.sizes) ∷ []) (not-no _ (off Area refl))).0;
      }

  back : (output : List ℕ) → (call output).answer.refusal ≡ 0 → writable t ≡ true
  unfolding text_call
  back output e = by (first board_order (text_lines t.sizes t.points t.length t.node t.share output)) refl e
    where
      by : (c : Check) → first board_order (text_lines t.sizes t.points t.length t.node t.share output) ≡ c
          → (settled c (text_of t) output).answer.refusal ≡ 0 → writable t ≡ true
      by (Err x) p q = absurd (omega (arith, number-low x, q))
      by (Ok tt) p q = of-facts t (passed output p)

  pub can_write : (writable t ≡ true) ↔ ((output : List ℕ) × ((call output).answer.refusal ≡ 0))
  can_write = (λ h. (text_of t, there h), λ h. back h.0 h.1)

  pub writes-text : (output : List ℕ) → (call output).answer.refusal ≡ 0 → call output ≡ record { answer = said (Ok (length (text_of t))); output = over (text_of t) output }
  unfolding text_call
  writes-text output e = by (first board_order (text_lines t.sizes t.points t.length t.node t.share output)) e
    where
      by : (c : Check) → (settled c (text_of t) output).answer.refusal ≡ 0
          → settled c (text_of t) output ≡ record { answer = said (Ok (length (text_of t))); output = over (text_of t) output }
      by (Err x) q = absurd (omega (arith, number-low x, q))
      by (Ok tt) q = refl

pub text-laws : ReadLaws
text-laws = record {
  can_write = can_write;
  writes-text = writes-text;
  writes_reads = writes_reads;
  reads-writes = reads-writes;
  one-text = one-text;
  text-told = text-told;
  none-joined = refl;
  texts-joined = λ t ts. refl;
  texts-told = texts-told;
}
