-- Texts that are alike, in propositions; and what the lines of the two calls say.
-- Assumes nothing.
use mathlib.Core.Path.{◌≡◌, refl, sym, ap, ◌∙◌}
use mathlib.Core.Bool.{Bool, true, not}
use mathlib.Core.Logic.{◌↔◌}
use mathlib.Core.Option.{Option, some, none}
use mathlib.Core.List.{List, [], ◌∷◌}
use Prim.Native.Nat.{ℕ, ◌≤◌}
use lib.Dec.{leb, eqb}
use lib.ListN.{length}
use borrow.Author.Tests.{leb-true, le-leb, eqb-true, eq-eqb}
use Rattle.lists.specs.Tests.{alls, every, same, given}
use Rattle.lists.specs.Lists.{All}
use Rattle.lists.proofs.Alls.{all-imp}
use Rattle.lists.proofs.Tests.{true-false, is_false, every-all, all-every, alls-hold, hold-alls, same-eq, same_refl}
use Rattle.sizes.specs.declared.Sizes.{Sizes}
use Rattle.sizes.proofs.Lines.{says-not, says_less, says-no-file}
use Rattle.board_spec.specs.Claims.{LinesSay}
use Rattle.board_spec.proofs.Claims.{◌and◌, end, lines-say}
use Rattle.text_spec.specs.Texts.{ShareTold, text_of, texts_joined, read_text, texts_of}
use Rattle.text_spec.specs.Calls.{read_text_lines, texts_told, first_of, like_sizes, like, gather_lines}
use Rattle.text_spec.specs.Laws.{Writable}
use Rattle.text_spec.specs.Demand1.{Like, read_text_claims, gather_claims}
use Rattle.text_spec.proofs.Back.{none-some}
use Rattle.text_spec.proofs.Laws.{text-told, texts-told}

-- ---- alike

sizes-eq : (y z : Sizes) → y.n ≡ z.n → y.k ≡ z.k → y.d ≡ z.d → y.r ≡ z.r → y ≡ z
sizes-eq y z a b c d =
    ap (λ (n : ℕ). record { n = n; k = y.k; d = y.d; r = y.r }) a
    ∙ ap (λ (k : ℕ). record { n = z.n; k = k; d = y.d; r = y.r }) b
    ∙ ap (λ (d : ℕ). record { n = z.n; k = z.k; d = d; r = y.r }) c
    ∙ ap (λ (r : ℕ). record { n = z.n; k = z.k; d = z.d; r = r }) d

sizes-alike : (y z : Sizes) → like_sizes y z ≡ true → y ≡ z
sizes-alike y z e =
    let h = alls-hold (eqb y.n z.n ∷ eqb y.k z.k ∷ eqb y.d z.d ∷ eqb y.r z.r ∷ []) e in
    sizes-eq y z (eqb-true _ _ h.0) (eqb-true _ _ h.1.0) (eqb-true _ _ h.1.1.0) (eqb-true _ _ h.1.1.1.0)

alike-sizes : (y z : Sizes) → y ≡ z → like_sizes y z ≡ true
alike-sizes y z e =
    hold-alls (eqb y.n z.n ∷ eqb y.k z.k ∷ eqb y.d z.d ∷ eqb y.r z.r ∷ []) (
      eq-eqb _ _ (ap (λ (s : Sizes). s.n) e),
      (eq-eqb _ _ (ap (λ (s : Sizes). s.k) e), (eq-eqb _ _ (ap (λ (s : Sizes). s.d) e), (eq-eqb _ _ (ap (λ (s : Sizes). s.r) e), tt))),
    )

same-as : (xs ys : List ℕ) → xs ≡ ys → same xs ys ≡ true
same-as xs ys e = ap (same xs) (sym e) ∙ same_refl xs

pub like_is : (t u : ShareTold) → (like t u ≡ true) ↔ Like t u
like_is t u = (
  (λ e. let h = alls-hold (like_sizes t.sizes u.sizes ∷ same t.points u.points ∷ eqb t.length u.length ∷ []) e in
      (sizes-alike _ _ h.0, same-eq _ _ h.1.0, eqb-true _ _ h.1.1.0)),
  (λ h. hold-alls (like_sizes t.sizes u.sizes ∷ same t.points u.points ∷ eqb t.length u.length ∷ [])
      (alike-sizes _ _ h.0, (same-as _ _ h.1, (eq-eqb _ _ h.2, tt)))),
)

-- ---- lines

-- a test that says P refused says that P does not hold
says_none : {P : Type 0} (b : Bool) → (b ≡ true) ↔ P → (not b ≡ true) ↔ (P → ⊥)
says_none b h = ((λ e p. true-false (h.1 p) ((says-not b).0 e)), (λ f. (says-not b).1 (is_false b (λ e. f (h.0 e)))))

every-says : {A : Type 0} (p : A → Bool) (P : A → Type 0) → ((x : A) → (p x ≡ true) ↔ P x) → (l : List A) → (every p l ≡ true) ↔ All P l
every-says p P h l = (
  (λ e. all-imp (λ x. p x ≡ true) P (λ x. (h x).0) l (every-all p l e)),
  (λ a. all-every p l (all-imp P (λ x. p x ≡ true) (λ x. (h x).1) l a)),
)

count-says : (m k : ℕ) → (alls (leb 1 m ∷ eqb m k ∷ []) ≡ true) ↔ ((1 ≤ m) × (m ≡ k))
count-says m k = (
  (λ e. let h = alls-hold (leb 1 m ∷ eqb m k ∷ []) e in (leb-true 1 m h.0, eqb-true m k h.1.0)),
  (λ h. hold-alls (leb 1 m ∷ eqb m k ∷ []) (le-leb 1 m h.0, (eq-eqb m k h.1, tt))),
)

-- that nothing was read says that there is nothing that could be
text_says : {A : Type 0} (o : Option A) (P : A → Type 0) → ((a : A) → (o ≡ some a) ↔ P a) → (not (given o) ≡ true) ↔ ((a : A) → P a → ⊥)
text_says none P h = ((λ e a p. none-some ((h a).1 p)), (λ f. refl))
text_says (some a) P h = ((λ e. absurd (true-false e refl)), (λ f. absurd (f a ((h a).0 refl))))

turned : {A : Type 0} {P Q : A → Type 0} {B : Type 0} → B ↔ ((a : A) → P a × Q a → ⊥) → B ↔ ((a : A) → Q a → P a → ⊥)
turned h = ((λ b a q p. h.0 b a (p, q)), (λ f. h.1 (λ a p. f a p.1 p.0)))

pub read-lines : (text output : List ℕ) → LinesSay (read_text_lines text output) (read_text_claims text output)
unfolding read_text_lines
read-lines text output =
    lines-say (read_text_lines text output) (read_text_claims text output)
    (turned {P = λ t. text ≡ text_of t} {Q = Writable} (text_says (read_text text) (λ t. (text ≡ text_of t) × Writable t) (text-told text)) and says_less _ _ and end)

pub gather-lines : (text output : List ℕ) → LinesSay (gather_lines text output) (gather_claims text output)
unfolding gather_lines
gather-lines text output =
    let ts = texts_told (texts_of text) in
    lines-say (gather_lines text output) (gather_claims text output)
    (turned {P = λ ts. text ≡ texts_joined ts} {Q = All Writable} (text_says (texts_of text) (λ ts. (text ≡ texts_joined ts) × All Writable ts) (texts-told text))
    and says_none (every (like (first_of ts)) ts) (every-says (like (first_of ts)) (Like (first_of ts)) (like_is (first_of ts)) ts)
    and says_none (alls (leb 1 (length ts) ∷ eqb (length ts) (first_of ts).sizes.k ∷ [])) (count-says (length ts) (first_of ts).sizes.k)
    and says-not _
    and says_less _ _
    and says-no-file _
    and end)
