-- The tests mean what specs/Laws.antt says.
-- Assumes nothing.
use mathlib.Core.Path.{◌≡◌, refl, sym, ◌∙◌, ap, subst}
use mathlib.Core.Bool.{true, false, not}
use mathlib.Core.Logic.{◌≢◌, ◌⊎◌, inl, inr}
use mathlib.Core.Option.{Option, some, none}
use mathlib.Core.List.{List, [], ◌∷◌, ◌++◌, append-nil, append_assoc}
use Prim.Native.Nat.{ℕ, zero, suc, ◌+◌, ◌-◌, ◌*◌, ◌≤◌, ◌<◌, min, max}
use native.Mathlib.Omega.{arith}
use lib.Dec.{eqb}
use lib.ListN.{length, get_or, take, drop, length-append, length-take, length-drop, get_or-append, drop_of_length-le}
use lib.Seq.{get_or-append-add, get_or-take, get_or-drop, drop_at, length-take-le, take_all}
use borrow.Author.Tests.{not-true, eq-eqb}
use Rattle.lists.specs.Tests.{pick, among, apart, same, given}
use Rattle.lists.specs.Lists.{All, concat, joined, piece, without, put, over}
use Rattle.lists.specs.Laws.{TestsMean}
use Rattle.lists.proofs.Tests.{true-false, is_false, every-all, all-every, alls-hold, hold-alls, same-eq, same_refl}
use Rattle.lists.proofs.Alls.{all-at, all_of, distinct_of, distinct-at}
use Rattle.lists.proofs.Boards.{below_all, all-below, among-cons, get_d-among, distinct, distinct-different, among-without, without-none}
use Rattle.lists.proofs.Pieces.{length-tabulate, tabulate-at, length-join, join-suc, piece-join, join-joined, length-joined, piece-at, length-fit, fit_at}

among-place : (l : List ℕ) (x : ℕ) → among l x ≡ true → (a : ℕ) × (a < length l) × (get_or l a 0 ≡ x)
among-place [] x e = absurd (true-false e refl)
among-place (y ∷ l) x e = go (among-cons y x l e) (among-place l x)
  where
    go : (y ≡ x) ⊎ (among l x ≡ true) → (among l x ≡ true → (a : ℕ) × (a < length l) × (get_or l a 0 ≡ x))
        → (a : ℕ) × (a < length (y ∷ l)) × (get_or (y ∷ l) a 0 ≡ x)
    go (inl p) ih = (zero, omega arith, p)
    go (inr p) ih = let r = ih p in (suc r.0, omega (arith, r.1), r.2)

apart_out : (l xs : List ℕ) → apart l xs ≡ true → (a b : ℕ) → a < length l → b < length xs → get_or l a 0 ≢ get_or xs b 0
apart_out l xs h a b ha hb e =
    let n = not-true _ (all-at (λ x. not (among l x) ≡ true) 0 xs (every-all (λ x. not (among l x)) xs h) b hb) in
    true-false (get_d-among l a ha) (subst (λ (x : ℕ). among l x ≡ false) (sym e) n)

apart_in : (l xs : List ℕ) → ((a b : ℕ) → a < length l → b < length xs → get_or l a 0 ≢ get_or xs b 0) → apart l xs ≡ true
apart_in l xs h =
    all-every (λ x. not (among l x)) xs
    (all_of (λ x. not (among l x) ≡ true) 0 xs
    (λ b hb. ap not (is_false (among l (get_or xs b 0)) (λ e. let p = among-place l (get_or xs b 0) e in h p.0 b p.1 hb p.2))))

over-place : (bytes l : List ℕ) (i : ℕ) → length bytes ≤ i → get_or (over bytes l) i 0 ≡ get_or l i 0
over-place bytes l i h =
    let e : length bytes + (i - length bytes) ≡ i = omega arith in
    ap (λ (m : ℕ). get_or (over bytes l) m 0) (sym e)
    ∙ get_or-append-add bytes (drop (length bytes) l) (i - length bytes) 0
    ∙ get_or-drop (length bytes) l (i - length bytes) 0
    ∙ ap (λ (m : ℕ). get_or l m 0) e

all_in : {A : Type 0} (P : A → Type 0) (l : List A) → ((i : ℕ) → i < length l → (other : A) → P (get_or l i other)) → All P l
all_in P [] f = tt
all_in P (x ∷ l) f = (f zero (omega arith) x, all_in P l (λ i h other. f (suc i) (omega arith) other))

given-some : {A : Type 0} (o : Option A) → given o ≡ true → (a : A) × (o ≡ some a)
given-some none h = absurd (true-false h refl)
given-some (some a) h = (a, refl)

concat-parts : {A : Type 0} (ls ms : List (List A)) → concat (ls ++ ms) ≡ concat ls ++ concat ms
concat-parts [] ms = refl
concat-parts (l ∷ ls) ms = ap (λ (t : List _). l ++ t) (concat-parts ls ms) ∙ sym (append_assoc l (concat ls) (concat ms))

joined-piece : (f : ℕ → List ℕ) (w : ℕ) → ((x : ℕ) → length (f x) ≡ w) → (l : List ℕ) (t : ℕ) → t < length l → piece w t (joined f l) ≡ f (get_or l t 0)
joined-piece f w h l t k =
    ap (piece w t) (sym (join-joined f l)) ∙ piece-join (length l) w (λ t. f (get_or l t 0)) (λ i _. h (get_or l i 0)) t k

piece-length : (w s : ℕ) (l : List ℕ) → length (piece w s l) ≡ min w (length l - s * w)
unfolding piece
piece-length w s l = length-take w (drop (s * w) l) ∙ ap (min w) (length-drop (s * w) l)

without-parts : (x : ℕ) (a b : List ℕ) → without x (a ++ b) ≡ without x a ++ without x b
without-parts x [] b = refl
without-parts x (y ∷ a) b =
    ap (λ (t : List ℕ). pick (eqb y x) [] (y ∷ []) ++ t) (without-parts x a b) ∙ sym (append_assoc (pick (eqb y x) [] (y ∷ [])) (without x a) (without x b))

without-once : (x : ℕ) (a b : List ℕ) → among a x ≡ false → among b x ≡ false → without x (a ++ (x ∷ b)) ≡ a ++ b
without-once x a b ha hb = without-parts x a (x ∷ b) ∙ rw (without-none x a ha, eq-eqb x x refl, without-none x b hb)

module _ (l : List ℕ) (at : ℕ) (bytes : List ℕ) (fits : at ≤ length l) where
  put-length : length (put l at bytes) ≡ max (length l) (at + length bytes)
  unfolding put
  put-length = let h = length-take-le at l fits in simp (length-append, length-drop, h) (omega arith)

  put-before : (p : ℕ) → p < at → get_or (put l at bytes) p 0 ≡ get_or l p 0
  unfolding put
  put-before p k =
      let h = length-take-le at l fits in
      rw append_assoc (get_or-append (take at l) (bytes ++ drop (at + length bytes) l) 0 p (omega arith) ∙ get_or-take at l p 0 k)

  put-inside : (i : ℕ) → i < length bytes → get_or (put l at bytes) (at + i) 0 ≡ get_or bytes i 0
  unfolding put
  put-inside i k =
      rw append_assoc
      (sym (get_or-drop at (take at l ++ (bytes ++ drop (at + length bytes) l)) i 0)
      ∙ ap (λ (x : List ℕ). get_or x i 0) (drop_at (take at l) (bytes ++ drop (at + length bytes) l) at (length-take-le at l fits))
      ∙ get_or-append bytes (drop (at + length bytes) l) 0 i k)

  put-after : (p : ℕ) → at + length bytes ≤ p → get_or (put l at bytes) p 0 ≡ get_or l p 0
  unfolding put
  put-after p k =
      let h : length (take at l ++ bytes) ≡ at + length bytes = length-append (take at l) bytes ∙ ap (λ (n : ℕ). n + length bytes) (length-take-le at l fits) in
      let e : length (take at l ++ bytes) + (p - (at + length bytes)) ≡ p = omega arith in
      let q : at + length bytes + (p - (at + length bytes)) ≡ p = omega arith in
      ap (λ (m : ℕ). get_or (take at l ++ bytes ++ drop (at + length bytes) l) m 0) (sym e)
      ∙ get_or-append-add (take at l ++ bytes) (drop (at + length bytes) l) (p - (at + length bytes)) 0
      ∙ get_or-drop (at + length bytes) l (p - (at + length bytes)) 0
      ∙ ap (λ (m : ℕ). get_or l m 0) q

put-beyond : (l : List ℕ) (at : ℕ) (bytes : List ℕ) → length l ≤ at → put l at bytes ≡ l ++ bytes
unfolding put
put-beyond l at bytes h =
    let d : drop (at + length bytes) l ≡ [] = drop_of_length-le l {i = at + length bytes} (omega arith) in
    rw (take_all at l h, d) (append-nil (l ++ bytes))

pub tests-mean : TestsMean
tests-mean = record {
  pick_is = λ a b. (refl, refl);
  all-is = λ P l. ((λ h i k other. all-at P other l h i k), all_in P l);
  alls-is = λ l. (alls-hold l, hold-alls l);
  given_is = λ o. (given-some o, λ p. ap given p.1);
  every-is = λ p l. (every-all p l, all-every p l);
  below-is = λ n l. (below_all n l, all-below n l);
  among-is = λ l x. (among-place l x, λ p. subst (λ (y : ℕ). among l y ≡ true) p.2 (get_d-among l p.0 p.1));
  different-is = λ l. ((λ h. distinct-at l (distinct l h)), (λ h. distinct-different l (distinct_of l h)));
  apart-is = λ l xs. (apart_out l xs, apart_in l xs);
  over_first = λ bytes l i h. get_or-append bytes (drop (length bytes) l) 0 i h;
  over-rest = over-place;
  over-length = λ bytes l h. length-append bytes (drop (length bytes) l) ∙ ap (λ (m : ℕ). length bytes + m) (length-drop (length bytes) l) ∙ omega arith;
  same-is = λ xs ys. (same-eq xs ys, λ e. subst (λ (y : List ℕ). same xs y ≡ true) e (same_refl xs));
  tabulate-length = length-tabulate;
  tabulate-at = λ n f i h other. tabulate-at n f other i h;
  concat-none = refl;
  concat-one = append-nil;
  concat-parts = concat-parts;
  join-none = λ f. refl;
  join_last = join-suc;
  join-length = length-join;
  join-piece = piece-join;
  joined_is = λ f l. sym (join-joined f l);
  joined_length = λ f w. length-joined w f;
  joined-piece = joined-piece;
  piece-length = piece-length;
  piece-at = λ w s i l. piece-at w s l i 0;
  fit_length = length-fit;
  fit_at = fit_at;
  without_not = without-none;
  without-once = without-once;
  without-parts = without-parts;
  without-among = among-without;
  put-length = put-length;
  put-before = put-before;
  put-inside = put-inside;
  put-after = put-after;
  put-beyond = put-beyond;
}
