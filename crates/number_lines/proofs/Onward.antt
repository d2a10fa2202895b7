-- What a line still says of an input, from where a reader stands in it; one byte at a time it stays the same.
-- Assumes nothing.
use mathlib.Core.Path.{◌≡◌, refl, sym, ap, fun_ext, ◌∙◌}
use mathlib.Core.Bool.{Bool, true, false}
use mathlib.Core.List.{List, [], ◌∷◌}
use Prim.Native.Nat.{ℕ, suc, ◌+◌, ◌*◌, ◌-◌, ◌≤◌, ◌<◌}
use native.Mathlib.Numerals.{add-one}
use lib.Dec.{ltb, eqb}
use lib.ListN.{length, get_or, drop, drop_of_length-le}
use lib.Seq.{drop-cons}
use borrow.Author.Tests.{ltb-true, ltb-false, eqb-true, eqb-false}
use Rattle.lists.specs.Tests.{pick}
use Rattle.number_lines.specs.declared.Reader.{Reader}
use Rattle.number_lines.specs.declared.Read.{Read}
use Rattle.number_lines.specs.declared.Read.TheVariants.{More, Whole, Malformed}
use Rattle.number_lines.specs.Lines.{digit, read_digits, read_lone, read_number, line}
use Rattle.number_lines.specs.Steps.{capped, fed_lone, fed_digits, fed_first, fed_name, fed, told, reads}
use Rattle.number_lines.proofs.Picks.{yes, no, if-ne}
use Rattle.number_lines.proofs.Fed.{fed-lone, fed-digits, fed-name, fed-first}
use Rattle.number_lines.proofs.Capped.{capped-zero, digits-capped}

module _ {A : Type 0} (bad : A) (name : List ℕ) (most : ℕ) (go : ℕ → List ℕ → A) where
  abbrev held : ℕ → List ℕ → A
  held v rest = go (capped most v) rest

  abbrev pub onward : Reader → List ℕ → A
  onward r input =
      pick (eqb r.part 1) (read_lone bad input held)
      (pick (eqb r.part 2) (read_digits bad r.value input held) (line bad (drop r.at name) input held))

  line-none : (name : List ℕ) → line bad name [] held ≡ bad
  line-none [] = refl
  line-none (c ∷ name) = refl

  -- where the input ends, the line is malformed
  pub onward-none : (r : Reader) → onward r [] ≡ bad
  onward-none r = at-end (eqb r.part 1) (eqb r.part 2)
    where
      at-end : (t u : Bool) → pick t bad (pick u bad (line bad (drop r.at name) [] held)) ≡ bad
      at-end true u = refl
      at-end false true = refl
      at-end false false = line-none (drop r.at name)

  module _ (r : Reader) (b : ℕ) (input : List ℕ) where
    -- what is done with what was read
    abbrev next : Read → A
    next x = told bad (λ r. onward r input) (λ v. go v input) x

    next_pick : (t : Bool) (x y : Read) → next (pick t x y) ≡ pick t (next x) (next y)
    next_pick true x y = refl
    next_pick false x y = refl

    lone-step : read_lone bad (b ∷ input) held ≡ next (fed_lone b)
    lone-step = ap (λ (v : ℕ). pick (eqb b 0x0A) (go v input) bad) (capped-zero most) ∙ sym (next_pick (eqb b 0x0A) (Whole 0) Malformed)

    digits_step : read_digits bad r.value (b ∷ input) held ≡ next (fed_digits most r b)
    digits_step =
        let w = 10 * r.value + (b - 0x30) in
        let q = More (record { part = 2; at = r.at; value = capped most w }) in
        ap (λ (x : A). pick (eqb b 0x0A) (held r.value input) x)
        (ap (λ (x : A). pick (digit b) x bad) (sym (digits-capped most bad go input w)) ∙ sym (next_pick (digit b) q Malformed))
        ∙ sym (next_pick (eqb b 0x0A) (Whole (capped most r.value)) (pick (digit b) q Malformed))

    first_step : read_number bad (b ∷ input) held ≡ next (fed_first most r b)
    first_step =
        let q = More (record { part = 2; at = r.at; value = capped most (b - 0x30) }) in
        ap (λ (x : A). pick (eqb b 0x30) (read_lone bad input held) x)
        (ap (λ (x : A). pick (digit b) x bad) (sym (digits-capped most bad go input (b - 0x30))) ∙ sym (next_pick (digit b) q Malformed))
        ∙ sym (next_pick (eqb b 0x30) (More (record { part = 1; at = r.at; value = 0 })) (pick (digit b) q Malformed))

    module _ (not-lone : r.part ≡ 1 → ⊥) (no-digits : r.part ≡ 2 → ⊥) where
      name-step : r.at < length name → line bad (drop r.at name) (b ∷ input) held ≡ next (fed_name name r b)
      name-step h =
          let c = get_or name r.at 0 in
          let q : Reader = record { part = r.part; at = r.at + 1; value = r.value } in
          let e : onward q input ≡ line bad (drop (suc r.at) name) input held =
          if-ne r.part 1 _ _ not-lone ∙ if-ne r.part 2 _ _ no-digits ∙ ap (λ (x : ℕ). line bad (drop x name) input held) (add-one r.at) in
          ap (λ (l : List ℕ). line bad l (b ∷ input) held) (drop-cons name r.at 0 h)
          ∙ ap (λ (x : A). pick (eqb b c) x bad) (sym e)
          ∙ sym (next_pick (eqb b c) (More q) Malformed)

      number_step : length name ≤ r.at → line bad (drop r.at name) (b ∷ input) held ≡ next (fed_first most r b)
      number_step h = ap (λ (l : List ℕ). line bad l (b ∷ input) held) (drop_of_length-le name h) ∙ first_step

    pub onward-step : onward r (b ∷ input) ≡ next (fed name most r b)
    onward-step = by_part (eqb r.part 1) refl (eqb r.part 2) refl (ltb r.at (length name)) refl
      where
        by_part : (t : Bool) → eqb r.part 1 ≡ t → (u : Bool) → eqb r.part 2 ≡ u → (w : Bool) → ltb r.at (length name) ≡ w
            → onward r (b ∷ input) ≡ next (fed name most r b)
        by_part true e u f w g = yes (eqb r.part 1) _ _ e ∙ lone-step ∙ ap next (sym (fed-lone name most r b (eqb-true _ _ e)))
        by_part false e true f w g =
            no (eqb r.part 1) _ _ e ∙ yes (eqb r.part 2) _ _ f ∙ digits_step
            ∙ ap next (sym (fed-digits name most r b (eqb-false _ _ e) (eqb-true _ _ f)))
        by_part false e false f true g =
            let p1 = eqb-false r.part 1 e in
            let p2 = eqb-false r.part 2 f in
            let h = ltb-true r.at (length name) g in
            no (eqb r.part 1) _ _ e ∙ no (eqb r.part 2) _ _ f ∙ name-step p1 p2 h ∙ ap next (sym (fed-name name most r b p1 p2 h))
        by_part false e false f false g =
            let p1 = eqb-false r.part 1 e in
            let p2 = eqb-false r.part 2 f in
            let h = ltb-false r.at (length name) g in
            no (eqb r.part 1) _ _ e ∙ no (eqb r.part 2) _ _ f ∙ number_step p1 p2 h ∙ ap next (sym (fed-first name most r b p1 p2 h))

  pub reads-onward : (input : List ℕ) (r : Reader) → reads bad name most r input go ≡ onward r input
  reads-onward [] r = sym (onward-none r)
  reads-onward (b ∷ input) r =
      ap (λ (more : Reader → A). told bad more (λ v. go v input) (fed name most r b)) (fun_ext (λ r. reads-onward input r))
      ∙ sym (onward-step r b input)
