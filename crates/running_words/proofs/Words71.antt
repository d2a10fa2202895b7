-- 71 words and the repair's record that they tell.
-- Assumes nothing.
use Prim.Native.Nat.{ℕ, ◌+◌, ◌≤◌}
use mathlib.Core.Path.{◌≡◌, refl, sym, ap, ap₂, ◌∙◌}
use mathlib.Core.Bool.{Bool, true, false}
use mathlib.Core.List.{List, [], ◌∷◌, ◌++◌, append-nil, append_assoc}
use native.Mathlib.Omega.{arith}
use mir.Val.{bool_byte}
use lib.Dec.{eqb}
use lib.ListN.{length, get_or, set, take, drop, length-append, length-drop, length-set, drop_of_length-le}
use lib.Seq.{sets-eq, take_all, take_at, drop_at, length-take-le}
use borrow.Rule.Slice.PartMut.{put_mid}
use Rattle.lists.specs.Tests.{pick}
use Rattle.lists.specs.Lists.{joined, piece}
use Rattle.lists.proofs.Pieces.{length-tabulate}
use Rattle.beside_spec.specs.Running.{Running}
use Rattle.record_words.specs.Words.{bytes, from_bytes}
use Rattle.repair_words.specs.RepairWords.{is_repair, repair_from, repair_words_of, pack}
use Rattle.repair_words.proofs.RepairWords.{repair-words}

pub seventy-one : (ps : List ℕ) → is_repair ps ≡ true → length ps ≡ 71
seventy-one ps h = ((repair-words.is-repair-is ps).0 h).0

-- ---- from words

-- the record as it is taken from them, but for the arrays
abbrev from-words : List ℕ → List ℕ → List ℕ → List ℕ → Running
from-words ps fresh helpers stand_ins =
    record { running = eqb (get_or ps 0 0) 1; count = get_or ps 1 0; carried = get_or ps 2 0; fresh = fresh; helpers = helpers; stand_ins = stand_ins }

pub told : (ps fresh helpers stand_ins : List ℕ) → length ps ≡ 71
    → fresh ≡ joined (bytes 8) (take 4 (drop 3 ps)) → helpers ≡ joined (bytes 8) (take 32 (drop 7 ps)) → stand_ins ≡ joined (bytes 8) (take 32 (drop 39 ps))
    → from-words ps fresh helpers stand_ins ≡ repair_from ps
told ps fresh helpers stand_ins l a b c =
    ap₂ {C = Running} (λ (x y : List ℕ). from-words ps x y stand_ins) a b
    ∙ ap (λ (z : List ℕ). from-words ps (joined (bytes 8) (take 4 (drop 3 ps))) (joined (bytes 8) (take 32 (drop 7 ps))) z)
    (c ∙ ap (joined (bytes 8)) (take_all 32 (drop 39 ps) (omega (arith, l, length-drop 39 ps))))

-- ---- to words

pub flag_word : (b : Bool) → bool_byte b ≡ pick b 1 0
flag_word true = refl
flag_word false = refl

-- a part put behind what stands before it
behind : (front back ys : List ℕ) (i n : ℕ) → length front ≡ i → put_mid i n (front ++ back) ys ≡ (front ++ ys) ++ drop n back
behind front back ys i n e =
    ap₂ {C = List ℕ} (λ (x y : List ℕ). x ++ (ys ++ drop n y)) (take_at front back i e) (drop_at front back i e) ∙ sym (append_assoc front ys (drop n back))

-- three words put leave as many
pub three-long : (ws : List ℕ) (a b c : ℕ) → length ws ≡ 71 → length (set (set (set ws 0 a) 1 b) 2 c) ≡ 71
three-long ws a b c e = length-set (set (set ws 0 a) 1 b) 2 c ∙ length-set (set ws 0 a) 1 b ∙ length-set ws 0 a ∙ e

-- a part of a slice of 71 words
pub part-long : (l : List ℕ) (i n : ℕ) → i + n ≤ length l → length (take n (drop i l)) ≡ n
part-long l i n h = length-take-le n (drop i l) (omega (arith, h, length-drop i l))

-- three words and three parts, one behind the other
pub put-made : (ws x y z : List ℕ) (a b c : ℕ) → length ws ≡ 71 → length x ≡ 4 → length y ≡ 32
    → put_mid 39 32 (put_mid 7 32 (put_mid 3 4 (set (set (set ws 0 a) 1 b) 2 c) x) y) z ≡ a ∷ b ∷ c ∷ (x ++ (y ++ z))
put-made ws x y z a b c l lx ly =
    let first : List ℕ = a ∷ b ∷ c ∷ [] in
    let rest : List ℕ = drop 3 ws in
    let l7 : length (first ++ x) ≡ 7 = length-append first x ∙ ap (λ (m : ℕ). 3 + m) lx in
    let l39 : length ((first ++ x) ++ y) ≡ 39 = length-append (first ++ x) y ∙ ap₂ ◌+◌ l7 ly in
    let e3 : put_mid 3 4 (set (set (set ws 0 a) 1 b) 2 c) x ≡ (first ++ x) ++ drop 4 rest =
    ap (λ (m : List ℕ). put_mid 3 4 m x) (sets-eq first ws 0 (omega (arith, l))) ∙ behind first rest x 3 4 refl in
    let e7 : put_mid 7 32 ((first ++ x) ++ drop 4 rest) y ≡ ((first ++ x) ++ y) ++ drop 32 (drop 4 rest) = behind (first ++ x) (drop 4 rest) y 7 32 l7 in
    let e39 : put_mid 39 32 (((first ++ x) ++ y) ++ drop 32 (drop 4 rest)) z ≡ (((first ++ x) ++ y) ++ z) ++ drop 32 (drop 32 (drop 4 rest)) =
    behind ((first ++ x) ++ y) (drop 32 (drop 4 rest)) z 39 32 l39 in
    let none : drop 32 (drop 32 (drop 4 rest)) ≡ [] =
    drop_of_length-le (drop 32 (drop 4 rest)) {i = 32} (omega (arith, l, length-drop 32 (drop 4 rest), length-drop 4 rest, length-drop 3 ws)) in
    ap (λ (m : List ℕ). put_mid 39 32 (put_mid 7 32 m y) z) e3 ∙ ap (λ (m : List ℕ). put_mid 39 32 m z) e7 ∙ e39
    ∙ ap (λ (m : List ℕ). (((first ++ x) ++ y) ++ z) ++ m) none ∙ append-nil (((first ++ x) ++ y) ++ z)
    ∙ append_assoc (first ++ x) y z ∙ append_assoc first x (y ++ z)

-- as they are packed
pub words-put : (p : Running) (ws x y z : List ℕ) (w : ℕ) → length ws ≡ 71 → w ≡ pick p.running 1 0
    → x ≡ pack 4 p.fresh → y ≡ pack 32 p.helpers → z ≡ pack 32 p.stand_ins
    → put_mid 39 32 (put_mid 7 32 (put_mid 3 4 (set (set (set ws 0 w) 1 p.count) 2 p.carried) x) y) z ≡ repair_words_of p
words-put p ws x y z w l ew ex ey ez =
    put-made ws x y z w p.count p.carried l (ap length ex ∙ packed 4 p.fresh) (ap length ey ∙ packed 32 p.helpers)
    ∙ ap₂ {C = List ℕ} (λ (v : ℕ) (r : List ℕ). v ∷ p.count ∷ p.carried ∷ r) ew
    (ap₂ {C = List ℕ} (λ (m r : List ℕ). m ++ r) ex (ap₂ {C = List ℕ} (λ (m r : List ℕ). m ++ r) ey ez))
  where
    packed : (m : ℕ) (l : List ℕ) → length (pack m l) ≡ m
    packed m l = length-tabulate m (λ q. from_bytes (piece 8 q l))
