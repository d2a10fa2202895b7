-- Texts that stand one after another are told apart in one way: those before a place are the first of all.
-- Assumes nothing.
use mathlib.Core.Path.{◌≡◌, refl, sym, ap, subst, ◌∙◌}
use mathlib.Core.Option.{Option, some, none}
use mathlib.Core.List.{List, [], ◌∷◌, ◌++◌, append_assoc}
use Prim.Native.Nat.{ℕ, ◌<◌}
use native.Mathlib.Omega.{arith}
use lib.ListN.{length, length-append}
use Rattle.lists.specs.Lists.{All}
use Rattle.text_spec.specs.Texts.{ShareTold, text_of, texts_joined, Found, text_at, texts_of}
use Rattle.text_spec.specs.Laws.{Writable}
use Rattle.text_spec.proofs.Back.{none-some}
use Rattle.text_spec.proofs.Laws.{writes_reads, text-begins, texts-told}

some_is : {X : Type 0} {x y : X} → ◌≡◌ {A = Option X} (some x) (some y) → x ≡ y
some_is e = cc

-- the first text is the first
first-is : (t u : ShareTold) (a b : List ℕ) → Writable t → Writable u → text_of t ++ a ≡ text_of u ++ b → (t ≡ u) × (a ≡ b)
first-is t u a b h k e =
    let q = some_is (sym (writes_reads t h a) ∙ ap text_at e ∙ writes_reads u k b) in
    (ap (λ (f : Found). f.told) q, ap (λ (f : Found). f.behind) q)

-- no text is empty
not-empty : (t : ShareTold) (a : List ℕ) → [] ≡ text_of t ++ a → ⊥
not-empty t a e = omega (arith, ap length e, length-append (text_of t) a, ap length (text-begins t).1)

-- texts that begin with others are these and more
pub behind-these : (done ts : List ShareTold) (rest : List ℕ) → All Writable done → All Writable ts → texts_joined done ++ rest ≡ texts_joined ts
    → (us : List ShareTold) × (ts ≡ done ++ us) × All Writable us × (rest ≡ texts_joined us)
behind-these [] ts rest h k e = (ts, refl, k, e)
behind-these (t ∷ done) [] rest h k e = absurd (not-empty t (texts_joined done ++ rest) (sym e ∙ append_assoc (text_of t) (texts_joined done) rest))
behind-these (t ∷ done) (u ∷ ts) rest h k e =
    let f = first-is t u (texts_joined done ++ rest) (texts_joined ts) h.0 k.0 (sym (append_assoc (text_of t) (texts_joined done) rest) ∙ e) in
    let r = behind-these done ts rest h.1 k.1 f.1 in
    (r.0, subst (λ (v : ShareTold). (v ∷ ts) ≡ t ∷ (done ++ r.0)) f.0 (ap {B = List ShareTold} (λ l. t ∷ l) r.1), r.2, r.3)

-- where no text stands behind these, the whole is no texts
pub none-behind : (text : List ℕ) (done : List ShareTold) (rest : List ℕ) → All Writable done → text ≡ texts_joined done ++ rest → 0 < length rest → text_at rest ≡ none
    → texts_of text ≡ none
none-behind text done rest h e l n = by (texts_of text) refl
  where
    stands : (us : List ShareTold) → All Writable us → rest ≡ texts_joined us → ⊥
    stands [] w q = omega (arith, l, ap length q)
    stands (u ∷ us) w q = none-some (sym n ∙ ap text_at q ∙ writes_reads u w.0 (texts_joined us))

    by : (o : Option (List ShareTold)) → texts_of text ≡ o → o ≡ none
    by none q = refl
    by (some ts) q =
        let w = (texts-told text ts).0 q in
        let r = behind-these done ts rest h w.1 (sym e ∙ w.0) in
        absurd (stands r.0 r.2 r.3)

-- and where nothing is behind them, it is these
pub all-these : (text : List ℕ) (done : List ShareTold) → All Writable done → text ≡ texts_joined done ++ [] → texts_of text ≡ some done
all-these text done h e = (texts-told text done).1 (e ∙ none_left (texts_joined done), h)
  where
    none_left : (l : List ℕ) → l ++ [] ≡ l
    none_left [] = refl
    none_left (x ∷ l) = ap {B = List ℕ} (λ m. x ∷ m) (none_left l)
