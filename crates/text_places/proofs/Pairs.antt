-- A line of pairs at a place, by what is told of it; and the bytes that its pairs spell.
-- Assumes nothing.
use mathlib.Core.Path.{◌≡◌, refl, sym, ap, ap₂, subst⁻¹, ◌∙◌}
use mathlib.Core.Bool.{Bool, true, false}
use mathlib.Core.Option.{Option, none}
use mathlib.Core.List.{List, [], ◌∷◌}
use Prim.Native.Nat.{ℕ, zero, suc, ◌+◌, ◌*◌, ◌≤◌, ◌<◌}
use native.Mathlib.Omega.{arith}
use lib.Dec.{eqb}
use lib.ListN.{length, get_or, drop, length-drop, drop_of_length-le}
use lib.Seq.{get_or-drop, drop-drop}
use Rattle.lists.specs.Tests.{pick}
use Rattle.lists.specs.Lists.{tabulate}
use Rattle.lists.proofs.Pieces.{tabulate-ext}
use Rattle.lists.proofs.Tests.{true-false, both}
use Rattle.point_lines.specs.Lines.{hexadecimal, digit_value, read_name, read_pairs}
use Rattle.text_spec.specs.Texts.{Found}
use Rattle.text_in.specs.declared.Told.{Told}
use Rattle.text_in.specs.Steps.{lost, name_at, pairs_at, pairs_name, pairs_line_at, nibble, pair_at, bytes_at}

-- ---- names

-- the input begins with these bytes
begins : List ℕ → List ℕ → Bool
begins [] input = true
begins (c ∷ name) [] = false
begins (c ∷ name) (b ∷ input) = pick (eqb b c) (begins name input) false

nested : {A : Type 0} (t u : Bool) (a b : A) → pick t (pick u a b) b ≡ pick (pick t u false) a b
nested true u a b = refl
nested false u a b = refl

name-read : {A : Type 0} (bad : A) (name input : List ℕ) (go : List ℕ → A) → read_name bad name input go ≡ pick (begins name input) (go (drop (length name) input)) bad
unfolding begins
name-read bad [] input go = refl
name-read bad (c ∷ name) [] go = refl
name-read bad (c ∷ name) (b ∷ input) go =
    ap (λ x. pick (eqb b c) x bad) (name-read bad name input go) ∙ nested (eqb b c) (begins name input) (go (drop (length name) input)) bad

begins-long : (name input : List ℕ) → begins name input ≡ true → length name ≤ length input
unfolding begins
begins-long [] input e = omega arith
begins-long (c ∷ name) [] e = absurd (true-false e refl)
begins-long (c ∷ name) (b ∷ input) e = let h = begins-long name input (both (eqb b c) (begins name input) e).1 in omega arith

-- ---- pairs

-- so many pairs of digits, and byte 0A
hexes : ℕ → List ℕ → Bool
hexes zero input = begins (0x0A ∷ []) input
hexes (suc n) input = pick (hexadecimal (get_or input 0 0)) (pick (hexadecimal (get_or input 1 0)) (hexes n (drop 2 input)) false) false

-- the bytes that they spell
spelt : ℕ → List ℕ → List ℕ
spelt n input = tabulate n (λ j. 16 * nibble (get_or input (2 * j) 0) + nibble (get_or input (2 * j + 1) 0))

spelt-more : (n b c : ℕ) (input : List ℕ) → spelt (suc n) (b ∷ c ∷ input) ≡ (16 * nibble b + nibble c) ∷ spelt n input
unfolding spelt
spelt-more n b c input =
    ap {B = List ℕ} (λ l. (16 * nibble b + nibble c) ∷ l)
    (tabulate-ext n (λ j. 16 * nibble (get_or (b ∷ c ∷ input) (2 * suc j) 0) + nibble (get_or (b ∷ c ∷ input) (2 * suc j + 1) 0))
    (λ j. 16 * nibble (get_or input (2 * j) 0) + nibble (get_or input (2 * j + 1) 0))
    (λ j h. ap₂ {C = ℕ} (λ (x y : ℕ). 16 * nibble (get_or (b ∷ c ∷ input) x 0) + nibble (get_or (b ∷ c ∷ input) y 0)) (even j) (odd j)))
  where
    even : (j : ℕ) → 2 * suc j ≡ suc (suc (2 * j))
    even j = omega arith

    odd : (j : ℕ) → 2 * suc j + 1 ≡ suc (suc (2 * j + 1))
    odd j = omega arith

module _ {A : Type 0} (bad : A) where
  pairs-read : (n : ℕ) (input : List ℕ) (go : List ℕ → List ℕ → A) → read_pairs bad n input go ≡ pick (hexes n input) (go (spelt n input) (drop (2 * n + 1) input)) bad
  unfolding hexes spelt
  pairs-read zero input go = name-read bad (0x0A ∷ []) input (go [])
  pairs-read (suc n) [] go = refl
  pairs-read (suc n) (b ∷ []) go = by (hexadecimal b)
    where
      by : (t : Bool) → pick t bad bad ≡ pick (pick t false false) (go (spelt (suc n) (b ∷ [])) (drop (2 * suc n + 1) (b ∷ []))) bad
      by true = refl
      by false = refl
  pairs-read (suc n) (b ∷ c ∷ input) go =
      by (hexadecimal b) refl (hexadecimal c) refl (pairs-read n input (λ xs rest. go ((16 * digit_value b + digit_value c) ∷ xs) rest))
    where
      there : hexadecimal b ≡ true → hexadecimal c ≡ true
          → go ((16 * digit_value b + digit_value c) ∷ spelt n input) (drop (2 * n + 1) input) ≡ go (spelt (suc n) (b ∷ c ∷ input)) (drop (2 * suc n + 1) (b ∷ c ∷ input))
      there e f =
          ap₂ {C = A} go
          (ap₂ {C = List ℕ} (λ (x y : ℕ). (16 * x + y) ∷ spelt n input) (sym (digit b e)) (sym (digit c f)) ∙ sym (spelt-more n b c input))
          (ap (λ (m : ℕ). drop m (b ∷ c ∷ input)) (let q : suc (suc (2 * n + 1)) ≡ 2 * suc n + 1 = omega arith in q))
        where
          digit : (x : ℕ) → hexadecimal x ≡ true → nibble x ≡ digit_value x
          digit x e = ap (λ (t : Bool). pick t (digit_value x) 0) e

      by : (t : Bool) → hexadecimal b ≡ t → (u : Bool) → hexadecimal c ≡ u
          → read_pairs bad n input (λ xs rest. go ((16 * digit_value b + digit_value c) ∷ xs) rest)
          ≡ pick (hexes n input) (go ((16 * digit_value b + digit_value c) ∷ spelt n input) (drop (2 * n + 1) input)) bad
          → pick t (pick u (read_pairs bad n input (λ xs rest. go ((16 * digit_value b + digit_value c) ∷ xs) rest)) bad) bad
          ≡ pick (pick t (pick u (hexes n input) false) false) (go (spelt (suc n) (b ∷ c ∷ input)) (drop (2 * suc n + 1) (b ∷ c ∷ input))) bad
      by false e u f ih = refl
      by true e false f ih = refl
      by true e true f ih = ih ∙ ap (λ (x : A). pick (hexes n input) x bad) (there e f)

hexes-long : (n : ℕ) (input : List ℕ) → hexes n input ≡ true → 2 * n + 1 ≤ length input
unfolding hexes
hexes-long zero input e = begins-long (0x0A ∷ []) input e
hexes-long (suc n) input e =
    let p = both (hexadecimal (get_or input 0 0)) (pick (hexadecimal (get_or input 1 0)) (hexes n (drop 2 input)) false) e in
    let q = both (hexadecimal (get_or input 1 0)) (hexes n (drop 2 input)) p.1 in
    let h = hexes-long n (drop 2 input) q.1 in
    omega (arith, length-drop 2 input)

-- ---- at a place

module _ (text : List ℕ) where
  spelt-at : (at n : ℕ) → spelt n (drop at text) ≡ bytes_at text at n
  unfolding spelt
  spelt-at at n = tabulate-ext n _ (λ j. pair_at text (at + 2 * j)) (λ j h.
      ap₂ {C = ℕ} (λ (x y : ℕ). 16 * nibble x + nibble y) (get_or-drop at text (2 * j) 0)
      (get_or-drop at text (2 * j + 1) 0 ∙ ap (λ (m : ℕ). get_or text m 0) (let q : at + (2 * j + 1) ≡ at + 2 * j + 1 = omega arith in q)))

  name-is : (at : ℕ) (name : List ℕ) → name_at text at name ≡ pick (begins name (drop at text)) (record { ok = true; value = 0; next = at + length name }) (lost text)
  unfolding name_at
  name-is at name = name-read (lost text) name (drop at text) (λ rest. record { ok = true; value = 0; next = at + length name })

  pairs_is : (at n : ℕ) → pairs_at text at n ≡ pick (hexes n (drop at text)) (record { ok = true; value = at; next = at + 2 * n + 1 }) (lost text)
  unfolding pairs_at
  pairs_is at n = pairs-read (lost text) n (drop at text) (λ xs rest. record { ok = true; value = at; next = at + 2 * n + 1 })

  -- what stands there, by what is told of it
  pairs-told : (at n : ℕ) (G : List ℕ → List ℕ → Option Found)
      → read_pairs none n (drop at text) G ≡ pick (pairs_at text at n).ok (G (bytes_at text (pairs_at text at n).value n) (drop (pairs_at text at n).next text)) none
  pairs-told at n G =
      pairs-read none n (drop at text) G
      ∙ by (hexes n (drop at text))
      ∙ ap (λ (t : Told). pick t.ok (G (bytes_at text t.value n) (drop t.next text)) none) (sym (pairs_is at n))
    where
      place : drop (2 * n + 1) (drop at text) ≡ drop (at + 2 * n + 1) text
      place = drop-drop (2 * n + 1) at text ∙ ap (λ (m : ℕ). drop m text) (let q : at + (2 * n + 1) ≡ at + 2 * n + 1 = omega arith in q)

      by : (t : Bool) → pick t (G (spelt n (drop at text)) (drop (2 * n + 1) (drop at text))) none
          ≡ (let l = pick t (record { ok = true; value = at; next = at + 2 * n + 1 }) (lost text) in pick l.ok (G (bytes_at text l.value n) (drop l.next text)) none)
      by true = ap₂ {C = Option Found} G (spelt-at at n) place
      by false = refl

hexes-none : (n : ℕ) → hexes n [] ≡ false
unfolding hexes begins
hexes-none zero = refl
hexes-none (suc n) = refl

-- of a line of so many pairs
pub record Pairs-at (text : List ℕ) (at n : ℕ) (t : Told) : Type 0 where
  pub within : t.ok ≡ true → t.value + 2 * n < t.next
  pub ends : t.ok ≡ true → t.next ≤ length text
  pub grows : t.ok ≡ true → at < t.next

module _ (text : List ℕ) (at which n : ℕ) where
  abbrev name : List ℕ
  name = pairs_name which

  module _ (e : begins name (drop at text) ≡ true) where
    here : (name_at text at name).next ≡ at + length name
    here = ap (λ (t : Told). t.next) (name-is text at name) ∙ ap (λ (t : Bool). (pick {A = Told} t (record { ok = true; value = 0; next = at + length name }) (lost text)).next) e

  module _ (e : begins name (drop at text) ≡ false) where
    gone : pairs_line_at text at which n ≡ lost text
    gone =
        let q : (name_at text at name).next ≡ length text =
        ap (λ (t : Told). t.next) (name-is text at name) ∙ ap (λ (t : Bool). (pick {A = Told} t (record { ok = true; value = 0; next = at + length name }) (lost text)).next) e in
        ap (λ (m : ℕ). pairs_at text m n) q ∙ pairs_is text (length text) n
        ∙ ap (λ (l : List ℕ). pick {A = Told} (hexes n l)
        (record { ok = true; value = length text; next = length text + 2 * n + 1 }) (lost text)) (drop_of_length-le text {i = length text} (omega arith))
        ∙ ap (λ (t : Bool). pick {A = Told} t (record { ok = true; value = length text; next = length text + 2 * n + 1 }) (lost text)) (hexes-none n)

  pub line-by : (G : List ℕ → List ℕ → Option Found)
      → read_name none name (drop at text) (λ input. read_pairs none n input G)
      ≡ pick (pairs_line_at text at which n).ok (G (bytes_at text (pairs_line_at text at which n).value n) (drop (pairs_line_at text at which n).next text)) none
  line-by G = name-read none name (drop at text) (λ input. read_pairs none n input G) ∙ by (begins name (drop at text)) refl
    where
      by : (t : Bool) → begins name (drop at text) ≡ t
          → pick t (read_pairs none n (drop (length name) (drop at text)) G) none
          ≡ pick (pairs_line_at text at which n).ok (G (bytes_at text (pairs_line_at text at which n).value n) (drop (pairs_line_at text at which n).next text)) none
      by true e =
          ap (λ (l : List ℕ). read_pairs none n l G) (drop-drop (length name) at text ∙ ap (λ (m : ℕ). drop m text) (sym (here e)))
          ∙ pairs-told text (name_at text at name).next n G
      by false e = ap (λ (t : Told). pick t.ok (G (bytes_at text t.value n) (drop t.next text)) none) (sym (gone e))

  pub line-told : Pairs-at text at n (pairs_line_at text at which n)
  line-told = by (begins name (drop at text)) refl
    where
      lost-told : Pairs-at text at n (lost text)
      lost-told = record { within = λ e. absurd (true-false e refl); ends = λ e. absurd (true-false e refl); grows = λ e. absurd (true-false e refl) }

      at_place : (m : ℕ) → at ≤ m → Pairs-at text at n (pairs_at text m n)
      at_place m h = subst⁻¹ (λ (t : Told). Pairs-at text at n t) (pairs_is text m n) (by-hexes (hexes n (drop m text)) refl)
        where
          by-hexes : (t : Bool) → hexes n (drop m text) ≡ t → Pairs-at text at n (pick t (record { ok = true; value = m; next = m + 2 * n + 1 }) (lost text))
          by-hexes false e = lost-told
          by-hexes true e =
              let l = hexes-long n (drop m text) e in
              let d = length-drop m text in
              record { within = λ e. omega arith; ends = λ e. omega (arith, l, d); grows = λ e. omega arith }

      by : (t : Bool) → begins name (drop at text) ≡ t → Pairs-at text at n (pairs_line_at text at which n)
      by true e = at_place (name_at text at name).next (omega (arith, here e))
      by false e = subst⁻¹ (λ (t : Told). Pairs-at text at n t) (gone e) lost-told
