-- One step of each walk of a repair's lists, and what the tests of several lists come to.
-- Assumes nothing.
use Prim.Native.Nat.{ℕ, suc, ◌+◌, ◌*◌, ◌-◌, ◌<◌, ◌≤◌}
use mathlib.Core.Path.{◌≡◌, refl, sym, ap, ap₂, ◌∙◌}
use mathlib.Core.Bool.{Bool, true, false, not}
use mathlib.Core.List.{List, [], ◌∷◌, ◌++◌}
use native.Mathlib.Nat.{suc-mul, mul-le-mul}
use native.Mathlib.Numerals.{add-one}
use native.Mathlib.Omega.{arith}
use lib.ListN.{length, take, drop}
use lib.Seq.{drop-cons, drop-drop}
use borrow.Author.Tests.{leb-true, eqb-true}
use Rattle.lists.specs.Lists.{All}
use Rattle.lists.specs.Tests.{pick, every, alls, among, different, apart}
use Rattle.lists.proofs.Alls.{Distinct, all-imp, all_right, distinct-left}
use Rattle.lists.proofs.Boards.{among-not, distinct, distinct-different, distinct_append}
use Rattle.lists.proofs.Tests.{true-false, is_false, not-no, every-all, all-every, alls-hold, hold-alls}
use Rattle.sizes.specs.declared.Sizes.{Sizes}
use Rattle.sizes.specs.declared.Refusal.TheVariants.{Count}
use Rattle.std.specs.Prelude.{Ok}
use Rattle.sizes.specs.Refusals.{◌when◌}
use Rattle.sizes.specs.Sizing.{legal}
use Rattle.sizes.proofs.Legal.{legal-facts}
use Rattle.store_spec.specs.Packets.{hear_named}
use Rattle.store_spec.proofs.Asked.{every_append}
use Rattle.line_checks.specs.Steps.{asked}
use Rattle.line_checks.proofs.Answers.{passed}
use Rattle.list_tests.specs.Steps.{count_tests}

-- ---- tests of two lists

pub left-fails : {A : Type 0} (p : A → Bool) (xs ys : List A) → every p xs ≡ false → every p (xs ++ ys) ≡ false
left-fails p xs ys e = every_append p xs ys ∙ ap (λ (t : Bool). alls (t ∷ every p ys ∷ [])) e

pub left-holds : {A : Type 0} (p : A → Bool) (xs ys : List A) → every p xs ≡ true → every p ys ≡ every p (xs ++ ys)
left-holds p xs ys e = sym (every_append p xs ys ∙ ap (λ (t : Bool). alls (t ∷ every p ys ∷ [])) e ∙ alone (every p ys))
  where
    alone : (t : Bool) → alls (true ∷ t ∷ []) ≡ t
    alone true = refl
    alone false = refl

-- ---- no board twice in two lists

distinct-right : (xs ys : List ℕ) → Distinct (xs ++ ys) → Distinct ys
distinct-right [] ys h = h
distinct-right (x ∷ xs) ys h = distinct-right xs ys h.1

distinct-cross : (xs ys : List ℕ) → Distinct (xs ++ ys) → All (λ x. not (among ys x) ≡ true) xs
distinct-cross [] ys h = tt
distinct-cross (x ∷ xs) ys h = (ap not (among-not ys x (all_right _ xs ys h.0)), distinct-cross xs ys h.1)

not_is : (b : Bool) → not b ≡ true → b ≡ false
not_is true e = sym e
not_is false e = refl

module _ (xs ys : List ℕ) where
  pub twice-left : different xs ≡ false → different (xs ++ ys) ≡ false
  twice-left e = is_false _ (λ t. true-false (distinct-different xs (distinct-left xs ys (distinct (xs ++ ys) t))) e)

  pub twice-right : different ys ≡ false → different (xs ++ ys) ≡ false
  twice-right e = is_false _ (λ t. true-false (distinct-different ys (distinct-right xs ys (distinct (xs ++ ys) t))) e)

  pub both-different : different xs ≡ true → different ys ≡ true → apart ys xs ≡ different (xs ++ ys)
  both-different h k = go (apart ys xs) refl
    where
      go : (t : Bool) → apart ys xs ≡ t → t ≡ different (xs ++ ys)
      go true e =
          sym (distinct-different (xs ++ ys) (distinct_append xs ys (distinct xs h) (distinct ys k)
          (all-imp (λ x. not (among ys x) ≡ true) (λ x. among ys x ≡ false) (λ x. not_is (among ys x)) xs (every-all (λ x. not (among ys x)) xs e))))
      go false e = sym (is_false _ (λ t. true-false (all-every (λ x. not (among ys x)) xs (distinct-cross xs ys (distinct (xs ++ ys) t))) e))

-- ---- the runs of helpers and of stand-ins

-- whether no board stands twice among those named for one fresh board
abbrev pub runs_differ : ℕ → ℕ → List ℕ → List ℕ → List ℕ → Bool
runs_differ d e fresh helpers stand_ins = every (λ h. different h.senders) (hear_named d e fresh helpers stand_ins)

module _ (d e : ℕ) (fresh helpers stand_ins : List ℕ) (a : ℕ) (h : a < length fresh) where
  -- whether those from the a-th on differ
  abbrev from : ℕ → Bool
  from a = runs_differ d e (drop a fresh) (drop (a * d) helpers) (drop (a * e) stand_ins)

  -- the a-th run of each as the loop takes it
  abbrev run : ℕ → List ℕ → List ℕ
  run w l = take (a * w + w - a * w) (drop (a * w) l)

  -- where the next one starts
  next : (w : ℕ) (l : List ℕ) → drop w (drop (a * w) l) ≡ drop ((a + 1) * w) l
  next w l =
      let k : (a + 1) * w ≡ a * w + w = ap (λ (m : ℕ). m * w) (add-one a) ∙ suc-mul a w in
      drop-drop w (a * w) l ∙ ap (λ (m : ℕ). drop m l) (sym k)

  taken : (w : ℕ) (l : List ℕ) → take w (drop (a * w) l) ≡ run w l
  taken w l =
      let q : w ≡ a * w + w - a * w = omega arith in
      ap (λ (m : ℕ). take m (drop (a * w) l)) q

  head : from a ≡ pick (different (run d helpers ++ run e stand_ins)) (from (a + 1)) false
  head =
      ap (λ (l : List ℕ). runs_differ d e l (drop (a * d) helpers) (drop (a * e) stand_ins)) (drop-cons fresh a 0 h)
      ∙ ap₂ {C = Bool} (λ (x y : List ℕ). pick (different (x ++ y)) (runs_differ d e (drop (suc a) fresh) (drop d (drop (a * d) helpers)) (drop e (drop (a * e) stand_ins))) false)
      (taken d helpers) (taken e stand_ins)
      ∙ ap₂ {C = Bool} (λ (x y : List ℕ). pick (different (run d helpers ++ run e stand_ins)) (runs_differ d e (drop (suc a) fresh) x y) false)
      (next d helpers) (next e stand_ins)
      ∙ ap (λ (m : ℕ). pick (different (run d helpers ++ run e stand_ins)) (runs_differ d e (drop m fresh) (drop ((a + 1) * d) helpers) (drop ((a + 1) * e) stand_ins)) false)
      (sym (add-one a))

  pub runs-no : different (run d helpers ++ run e stand_ins) ≡ false → from a ≡ false
  runs-no q = head ∙ ap (λ (t : Bool). pick t (from (a + 1)) false) q

  pub runs-next : different (run d helpers ++ run e stand_ins) ≡ true → from (a + 1) ≡ from a
  runs-next q = sym (head ∙ ap (λ (t : Bool). pick t (from (a + 1)) false) q)

-- ---- three tests

pub three-hold : (a b c : Bool) → a ≡ true → b ≡ true → c ≡ true → not (alls (a ∷ b ∷ c ∷ [])) ≡ false
three-hold a b c ea eb ec = ap not (hold-alls (a ∷ b ∷ c ∷ []) (ea, (eb, (ec, tt))))

pub first-fails : (a b c : Bool) → a ≡ false → not (alls (a ∷ b ∷ c ∷ [])) ≡ true
first-fails a b c ea = rw ea refl

pub second-fails : (a b c : Bool) → a ≡ true → b ≡ false → not (alls (a ∷ b ∷ c ∷ [])) ≡ true
second-fails a b c ea eb = rw (ea, eb) refl

pub third-fails : (a b c : Bool) → a ≡ true → b ≡ true → c ≡ false → not (alls (a ∷ b ∷ c ∷ [])) ≡ true
third-fails a b c ea eb ec = rw (ea, eb, ec) refl

-- ---- COUNT

-- boards of all runs are few
pub few-named : (z : Sizes) (t w : ℕ) → legal z ≡ true → t ≤ z.r → w ≤ z.d + z.r → t * w ≤ 1024
few-named z t w h a b =
    let f = legal-facts z h in
    let x : t ≤ 32 = omega (arith, f.enough, f.few) in
    let y : w ≤ 32 = omega (arith, f.enough, f.few) in
    mul-le-mul x y

-- what COUNT tells where it passes
pub record Counted (z : Sizes) (fresh helpers stand_ins : ℕ) : Type 0 where
  pub some : 1 ≤ fresh
  pub most : fresh ≤ z.r
  pub helper-count : helpers ≡ fresh * z.d
  pub stand-in-count : stand_ins ≡ fresh * (z.r - fresh)

pub counted : (z : Sizes) (fresh helpers stand_ins : ℕ) → asked (Count when not (alls (count_tests z fresh helpers stand_ins))) ≡ Ok tt → Counted z fresh helpers stand_ins
counted z fresh helpers stand_ins h =
    let e = alls-hold (count_tests z fresh helpers stand_ins) (not-no _ (passed (Count when not (alls (count_tests z fresh helpers stand_ins))) h)) in
    record {
      some = leb-true _ _ e.0;
      most = leb-true _ _ e.1.0;
      helper-count = eqb-true _ _ e.1.1.0;
      stand-in-count = eqb-true _ _ e.1.1.1.0;
    }
