-- Laws of marks: none is on from n up; and the marks that the boards in service have, after boards go off and come on.
-- Assumes nothing.
use Prim.Native.Nat.{ℕ, zero, suc, ◌+◌, ◌-◌, ◌≤◌, ◌<◌}
use mathlib.Core.Path.{◌≡◌, refl, sym, ◌∙◌, ap, subst}
use mathlib.Core.Bool.{Bool, true, false}
use mathlib.Core.List.{List, [], ◌∷◌, ◌++◌}
use native.Mathlib.Omega.{arith}
use lib.Dec.{ltb, eqb, eqb-zero-suc, eqb-suc-zero, eqb-suc-suc}
use lib.ListN.{length, length-set, drop, get_or, set, get_or-eq_default}
use lib.Seq.{get_or-drop, get_or-set_same, get_or-set_other}
use borrow.Author.Tests.{ltb-true, ltb-false, eqb-true, eqb-false}
use Rattle.lists.specs.Lists.{tabulate, All, without}
use Rattle.lists.specs.Tests.{among, pick}
use Rattle.lists.proofs.Boards.{all_among, among-without, get_d-among}
use Rattle.lists.proofs.Pieces.{tabulate-at, length-tabulate, tabulate-ext, tabulate-all}
use Rattle.lists.proofs.Tests.{true-false, is_false}
use Rattle.sizes.specs.Sizing.{max_boards}
use Rattle.store_spec.specs.Record.{all_off, turn_on}

-- ---- all off

off_at : (l : List Bool) (i : ℕ) → all_off l ≡ true → get_or l i false ≡ false
off_at [] i h = refl
off_at (true ∷ l) i h = absurd (true-false h refl)
off_at (false ∷ l) zero h = refl
off_at (false ∷ l) (suc i) h = off_at l i h

pub off-none : (l : List Bool) (i : ℕ) → all_off l ≡ true → get_or l i false ≡ true → ⊥
off-none l i h e = true-false e (off_at l i h)

-- all marks from n up are off where each that is on is below n
pub off-above : (l : List Bool) → ((i : ℕ) → get_or l i false ≡ true → ⊥) → all_off l ≡ true
off-above [] h = refl
off-above (true ∷ l) h = absurd (h zero refl)
off-above (false ∷ l) h = off-above l (λ i. h (suc i))

pub off-from : (n : ℕ) (l : List Bool) → ((i : ℕ) → get_or l i false ≡ true → i < n) → all_off (drop n l) ≡ true
off-from n l h = off-above (drop n l) (λ i e. let k = h (n + i) (sym (get_or-drop n l i false) ∙ e) in omega arith)

-- a board in service is below n
pub on_below : (n : ℕ) (marks : List Bool) (i : ℕ) → all_off (drop n marks) ≡ true → get_or marks i false ≡ true → i < n
on_below n marks i h e = go (ltb i n) refl
  where
    go : (t : Bool) → ltb i n ≡ t → i < n
    go true q = ltb-true i n q
    go false q =
        let k : n ≤ i = ltb-false i n q in
        let j : n + (i - n) ≡ i = omega arith in
        absurd (true-false e (ap (λ (x : ℕ). get_or marks x false) (sym j) ∙ sym (get_or-drop n marks (i - n) false) ∙ off_at (drop n marks) (i - n) h))

-- ---- the marks of boards in service

abbrev pub marks_of : List ℕ → List Bool
marks_of service = tabulate max_boards (among service)

pub mark-at : (service : List ℕ) (i : ℕ) → All (λ x. x < max_boards) service → get_or (marks_of service) i false ≡ among service i
mark-at service i low = go (ltb i max_boards) refl
  where
    go : (t : Bool) → ltb i max_boards ≡ t → get_or (marks_of service) i false ≡ among service i
    go true e = tabulate-at max_boards (among service) false i (ltb-true i max_boards e)
    go false e =
        let k : max_boards ≤ i = ltb-false i max_boards e in
        get_or-eq_default (marks_of service) false {n = i} (rw length-tabulate k)
        ∙ sym (is_false (among service i) (λ a. let b : i < max_boards = all_among (λ x. x < max_boards) service i low a in omega arith))

set-tabulate : (n : ℕ) (f : ℕ → Bool) (b : ℕ) (v : Bool) → set (tabulate n f) b v ≡ tabulate n (λ i. pick (eqb b i) v (f i))
set-tabulate zero f b v = refl
set-tabulate (suc n) f zero v = ap {B = List Bool} (λ l. v ∷ l) (tabulate-ext n (λ i. f (suc i)) (λ i. pick (eqb zero (suc i)) v (f (suc i))) (λ i h. rw (eqb-zero-suc i) refl))
set-tabulate (suc n) f (suc b) v =
    ap {B = List Bool} (λ l. f 0 ∷ l)
    (set-tabulate n (λ i. f (suc i)) b v
    ∙ tabulate-ext n (λ i. pick (eqb b i) v (f (suc i))) (λ i. pick (eqb (suc b) (suc i)) v (f (suc i))) (λ i h. rw (eqb-suc-suc b i) refl))
    ∙ ap {B = List Bool} (λ t. pick t v (f 0) ∷ tabulate n (λ i. pick (eqb (suc b) (suc i)) v (f (suc i)))) (sym (eqb-suc-zero b))

-- a board goes off
pub marks-lose : (service : List ℕ) (b : ℕ) → set (marks_of service) b false ≡ marks_of (without b service)
marks-lose service b =
    set-tabulate max_boards (among service) b false
    ∙ tabulate-ext max_boards (λ i. pick (eqb b i) false (among service i)) (among (without b service)) (λ i h. sym (among-without b service i))

among-insert : (xs ys : List ℕ) (b x : ℕ) → among (xs ++ (b ∷ ys)) x ≡ pick (eqb b x) true (among (xs ++ ys) x)
among-insert [] ys b x = refl
among-insert (y ∷ xs) ys b x = go (eqb y x) (eqb b x) (among-insert xs ys b x)
  where
    go : (t u : Bool) → among (xs ++ (b ∷ ys)) x ≡ pick u true (among (xs ++ ys) x)
        → pick t true (among (xs ++ (b ∷ ys)) x) ≡ pick u true (pick t true (among (xs ++ ys) x))
    go true true e = refl
    go true false e = refl
    go false u e = e

-- boards come on
pub marks-on : (boards service : List ℕ) → turn_on boards (marks_of service) ≡ marks_of (boards ++ service)
marks-on [] service = refl
marks-on (b ∷ boards) service =
    ap (turn_on boards) (set-tabulate max_boards (among service) b true) ∙ marks-on boards (b ∷ service)
    ∙ tabulate-ext max_boards (among (boards ++ (b ∷ service))) (among (b ∷ boards ++ service)) (λ i h. among-insert boards service b i)

-- ---- all n on

pub among_first : (n i : ℕ) → among (tabulate n (λ t. t)) i ≡ ltb i n
among_first n i = go (ltb i n) refl
  where
    go : (t : Bool) → ltb i n ≡ t → among (tabulate n (λ t. t)) i ≡ t
    go true e =
        let l : i < n = ltb-true i n e in
        subst (λ (x : ℕ). among (tabulate n (λ t. t)) x ≡ true) (tabulate-at n (λ t. t) 0 i l)
        (get_d-among (tabulate n (λ t. t)) i (rw length-tabulate l))
    go false e =
        is_false _ (λ a.
        let h : i < n = all_among (λ x. x < n) (tabulate n (λ t. t)) i (tabulate-all (λ x. x < n) n (λ t. t) (λ t k. k)) a in
        let k : n ≤ i = ltb-false i n e in
        omega arith)

pub marks-all : (n : ℕ) → tabulate max_boards (λ i. ltb i n) ≡ marks_of (tabulate n (λ t. t))
marks-all n = tabulate-ext max_boards (λ i. ltb i n) (among (tabulate n (λ t. t))) (λ i h. sym (among_first n i))

pub first_below : (n m : ℕ) → n ≤ m → All (λ x. x < m) (tabulate n (λ t. t))
first_below n m h = tabulate-all (λ x. x < m) n (λ t. t) (λ t k. omega arith)

-- ---- one mark goes off

pub off : (marks : List Bool) (b i : ℕ) → get_or (set marks b false) i false ≡ pick (eqb b i) false (get_or marks i false)
off marks b i = go (eqb b i) refl
  where
    at-end : (t : Bool) → ltb b (length marks) ≡ t → get_or (set marks b false) b false ≡ false
    at-end true e = get_or-set_same marks b false false (ltb-true b (length marks) e)
    at-end false e =
        let h : length marks ≤ b = ltb-false b (length marks) e in
        get_or-eq_default (set marks b false) false {n = b} (omega (arith, h, length-set marks b false))

    go : (t : Bool) → eqb b i ≡ t → get_or (set marks b false) i false ≡ pick t false (get_or marks i false)
    go true e = ap (λ (x : ℕ). get_or (set marks b false) x false) (sym (eqb-true b i e)) ∙ at-end (ltb b (length marks)) refl
    go false e = get_or-set_other marks b i false false (λ q. eqb-false b i e (sym q))
