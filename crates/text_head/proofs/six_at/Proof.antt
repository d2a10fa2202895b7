-- `text_head::six_at` meets its contract: each line from behind the last.
-- Assumes nothing.
use mathlib.Core.Path.{◌≡◌, ap, ◌∙◌}
use mathlib.Core.List.{List}
use Prim.Native.Nat.{ℕ}
use Rattle.text_in.specs.declared.Told.{Told}
use Rattle.text_in.specs.Steps.{number_at}
use Rattle.text_head.specs.declared.Six.{Six}
use Rattle.text_head.specs.Steps.{six_at}
use borrow.Author.Rules.{rules}
use Rattle.text_head.proofs.six_at.Statement.{statement}
use Rattle.text_head.proofs.six_at.Tie as tie

-- what six lines tell
abbrev six : Told → Told → Told → Told → Told → Told → Six
six n k d r o l = record { ok = l.ok; sizes = record { n = n.value; k = k.value; d = d.value; r = r.value }; node = o.value; length = l.value; next = l.next }

module _ (text : List ℕ) (at : ℕ) where
  abbrev five : Told → Told → Told → Told → Told → Six
  five n k d r o = six n k d r o (number_at text o.next 5)

  abbrev four : Told → Told → Told → Told → Six
  four n k d r = five n k d r (number_at text r.next 4)

  abbrev three : Told → Told → Told → Six
  three n k d = four n k d (number_at text d.next 3)

  abbrev two : Told → Told → Six
  two n k = three n k (number_at text k.next 2)

  lines : (n k d r o l : Told) → n ≡ number_at text at 0 → k ≡ number_at text n.next 1 → d ≡ number_at text k.next 2 → r ≡ number_at text d.next 3
      → o ≡ number_at text r.next 4 → l ≡ number_at text o.next 5 → six n k d r o l ≡ six_at text at
  lines n k d r o l en ek ed er eo el =
      ap (six n k d r o) el ∙ ap (five n k d r) eo ∙ ap (four n k d) er ∙ ap (three n k) ed ∙ ap (two n) ek
      ∙ ap (λ (n : Told). two n (number_at text n.next 1)) en

returns : tie.Need-returns
returns c =
    let c5 = c.before in
    let c4 = c5.before in
    let c3 = c4.before in
    let c2 = c3.before in
    let c1 = c2.before in
    let a = c1.before.before.args in
    lines a.text.now a.at c1.number_from-n.result c2.number_from-k.result c3.number_from-d.result c4.number_from-r.result c5.number_from-node.result
    c.number_from-length.result c1.number_from-n.ensures c2.number_from-k.ensures c3.number_from-d.ensures c4.number_from-r.ensures c5.number_from-node.ensures
    c.number_from-length.ensures

pub six_at_spec : {M : Type 1} → statement M
six_at_spec =
    tie.close
    (tie.spec
    (λ c κs. search rules)
    (λ c κs. search rules)
    (λ c κs. search rules)
    (λ c κs. search rules)
    (λ c κs. search rules)
    (λ c κs. search rules)
    returns)
