-- Board numbers in two lists and one more: when they are below n, and when none stands twice.
-- Assumes nothing.
use Prim.Native.Nat.{ℕ}
use mathlib.Core.Path.{◌≡◌, refl, sym}
use mathlib.Core.Bool.{Bool, true, false, not}
use mathlib.Core.Logic.{◌≢◌}
use mathlib.Core.List.{List, [], ◌∷◌, ◌++◌}
use Rattle.lists.specs.Lists.{All}
use Rattle.lists.specs.Tests.{below, among, different, apart}
use Rattle.lists.proofs.Tests.{true-false, is_false, all-every, every-all}
use Rattle.lists.proofs.Alls.{Distinct, all-imp, all_left, all_right, append-all, distinct-left}
use Rattle.lists.proofs.Boards.{below_all, all-below, among-not, not-among, distinct, distinct-different, distinct_append}

distinct-right : (xs ys : List ℕ) → Distinct (xs ++ ys) → Distinct ys
distinct-right [] ys h = h
distinct-right (x ∷ xs) ys h = distinct-right xs ys h.1

distinct-cross : (xs ys : List ℕ) → Distinct (xs ++ ys) → All (λ x. among ys x ≡ false) xs
distinct-cross [] ys h = tt
distinct-cross (x ∷ xs) ys h = (among-not ys x (all_right (λ y. y ≢ x) xs ys h.0), distinct-cross xs ys h.1)

is-not : (b : Bool) → b ≡ false → not b ≡ true
is-not b e = rw e refl

not_is : (b : Bool) → not b ≡ true → b ≡ false
not_is true e = sym e
not_is false e = refl

others-alone : (b : ℕ) (l : List ℕ) → All (λ y. y ≢ b) l → All (λ y. among (b ∷ []) y ≡ false) l
others-alone b l h = all-imp (λ y. y ≢ b) (λ y. among (b ∷ []) y ≡ false) (λ y ne. among-not (b ∷ []) y ((λ e. ne (sym e)), tt)) l h

alone-others : (b : ℕ) (l : List ℕ) → All (λ y. among (b ∷ []) y ≡ false) l → among l b ≡ false
alone-others b l h = among-not l b (all-imp (λ y. among (b ∷ []) y ≡ false) (λ y. y ≢ b) (λ y e q. (not-among (b ∷ []) y e).0 (sym q)) l h)

module _ (n : ℕ) (xs ys : List ℕ) (b : ℕ) where
  pub below_left : below n xs ≡ false → below n (xs ++ ys ++ (b ∷ [])) ≡ false
  below_left e = is_false _ (λ t. true-false (all-below n xs (all_left _ xs ys (all_left _ (xs ++ ys) (b ∷ []) (below_all n (xs ++ ys ++ (b ∷ [])) t)))) e)

  pub below-mid : below n ys ≡ false → below n (xs ++ ys ++ (b ∷ [])) ≡ false
  below-mid e = is_false _ (λ t. true-false (all-below n ys (all_right _ xs ys (all_left _ (xs ++ ys) (b ∷ []) (below_all n (xs ++ ys ++ (b ∷ [])) t)))) e)

  pub below_last : below n xs ≡ true → below n ys ≡ true → below n (b ∷ []) ≡ below n (xs ++ ys ++ (b ∷ []))
  below_last h k = go (below n (b ∷ [])) refl
    where
      go : (t : Bool) → below n (b ∷ []) ≡ t → t ≡ below n (xs ++ ys ++ (b ∷ []))
      go true e = sym (all-below n (xs ++ ys ++ (b ∷ [])) (append-all _ (xs ++ ys) (b ∷ []) (append-all _ xs ys (below_all n xs h) (below_all n ys k)) (below_all n (b ∷ []) e)))
      go false e = sym (is_false _ (λ t. true-false (all-below n (b ∷ []) (all_right _ (xs ++ ys) (b ∷ []) (below_all n (xs ++ ys ++ (b ∷ [])) t))) e))

module _ (xs ys : List ℕ) (b : ℕ) where
  abbrev all : List ℕ
  all = xs ++ ys ++ (b ∷ [])

  fore : different all ≡ true → Distinct (xs ++ ys)
  fore t = distinct-left (xs ++ ys) (b ∷ []) (distinct all t)

  pub twice-left : different xs ≡ false → different all ≡ false
  twice-left e = is_false _ (λ t. true-false (distinct-different xs (distinct-left xs ys (fore t))) e)

  pub twice-mid : different ys ≡ false → different all ≡ false
  twice-mid e = is_false _ (λ t. true-false (distinct-different ys (distinct-right xs ys (fore t))) e)

  pub shared : apart ys xs ≡ false → different all ≡ false
  shared e = is_false _ (λ t.
      true-false (all-every (λ x. not (among ys x)) xs (all-imp (λ x. among ys x ≡ false) (λ x. not (among ys x) ≡ true) (λ x. is-not (among ys x)) xs (distinct-cross xs ys (fore t)))) e)

  last-new : different all ≡ true → All (λ y. among (b ∷ []) y ≡ false) (xs ++ ys)
  last-new t = distinct-cross (xs ++ ys) (b ∷ []) (distinct all t)

  pub last-left : among xs b ≡ true → different all ≡ false
  last-left e = is_false _ (λ t. true-false e (alone-others b xs (all_left _ xs ys (last-new t))))

  pub last-mid : among ys b ≡ true → different all ≡ false
  last-mid e = is_false _ (λ t. true-false e (alone-others b ys (all_right _ xs ys (last-new t))))

  pub all_apart : different xs ≡ true → different ys ≡ true → apart ys xs ≡ true → among xs b ≡ false → among ys b ≡ false → different all ≡ true
  all_apart h k a p q =
      distinct-different all (distinct_append (xs ++ ys) (b ∷ [])
      (distinct_append xs ys (distinct xs h) (distinct ys k)
      (all-imp (λ x. not (among ys x) ≡ true) (λ x. among ys x ≡ false) (λ x. not_is (among ys x)) xs (every-all (λ x. not (among ys x)) xs a)))
      (distinct (b ∷ []) refl)
      (append-all (λ y. among (b ∷ []) y ≡ false) xs ys (others-alone b xs (not-among xs b p)) (others-alone b ys (not-among ys b q))))
