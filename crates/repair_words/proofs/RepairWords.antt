-- Words and the repair's record tell each other.
-- Assumes nothing.
use mathlib.Core.Path.{◌≡◌, refl, sym, ap, ap₂, ◌∙◌, subst}
use mathlib.Core.Bool.{Bool, true, false}
use mathlib.Core.Logic.{◌↔◌}
use mathlib.Core.List.{List, [], ◌∷◌, ◌++◌}
use Prim.Native.Nat.{ℕ, zero, suc, ◌+◌, ◌*◌, ◌/◌, ◌%◌, ◌^◌, ◌<◌}
use native.Mathlib.Nat.{mul_comm}
use native.Mathlib.Omega.{arith}
use lib.Dec.{ltb, eqb}
use lib.ListN.{length, get_or, take, drop, length-append, length-drop, take-append-drop, get_or-append}
use lib.Seq.{take_all, take_at, drop_at, drop-drop, length-take-le, get_or-drop}
use borrow.Author.Tests.{ltb-true, lt-ltb, eqb-true, eq-eqb}
use Rattle.lists.specs.Tests.{pick, every}
use Rattle.lists.specs.Lists.{All, Bytes, join, joined, piece}
use Rattle.lists.proofs.Alls.{all-at, append-all, take-alls, drop-alls, all-imp}
use Rattle.lists.proofs.Put.{part_end}
use Rattle.lists.proofs.Pieces.{join-ext, join-piece, length-piece, piece_bytes, piece-at, piece-join, length-joined, join-joined, length-tabulate, tabulate-at, tabulate-ext, tabulate-get_d}
use Rattle.lists.proofs.Pieces.{tabulate-all, tabulate-take}
use Rattle.lists.proofs.Tests.{alls-hold, hold-alls, every-all, all-every}
use Rattle.beside_spec.specs.Running.{Running}
use Rattle.beside_spec.specs.HandedLaws.{Arrays}
use Rattle.record_words.specs.Words.{bytes, from_bytes, word}
use Rattle.record_words.proofs.Places.{byte_at}
use Rattle.record_words.proofs.Points.{length-bytes, word_back, is_word, bytes-number, points-bytes}
use Rattle.repair_words.specs.RepairWords.{pack, is_repair, repair_from, repair_words_of}
use Rattle.repair_words.specs.Laws.{RepairWordLaws}

-- m words and their bytes
words-packed : (m : ℕ) (l : List ℕ) → length l ≡ m → All (λ w. word w ≡ true) l → pack m (joined (bytes 8) l) ≡ l
words-packed m l e h =
    tabulate-ext m _ (λ q. get_or l q 0)
    (λ q k. ap from_bytes (ap (piece 8 q) (sym (join-joined (bytes 8) l)) ∙ piece-join (length l) 8 (λ t. bytes 8 (get_or l t 0)) (λ i _. length-bytes 8 (get_or l i 0)) q (omega (arith, e, k)))
    ∙ word_back (get_or l q 0) (ltb-true _ _ (all-at (λ w. word w ≡ true) 0 l h q (omega (arith, e, k)))))
    ∙ tabulate-get_d m l 0 e

module _ (m : ℕ) (xs : List ℕ) (h : Bytes xs) (e : length xs ≡ m * 8) where
  long : (q : ℕ) → q < m → length (piece 8 q xs) ≡ 8
  long q k = length-piece 8 q xs (omega (arith, part_end q 8 m k, e))

  packed-bytes : joined (bytes 8) (pack m xs) ≡ xs
  packed-bytes =
      sym (join-joined (bytes 8) (pack m xs))
      ∙ ap (λ (n : ℕ). join n (λ t. bytes 8 (get_or (pack m xs) t 0))) (length-tabulate m (λ q. from_bytes (piece 8 q xs)))
      ∙ join-ext m (λ t. bytes 8 (get_or (pack m xs) t 0)) (λ q. piece 8 q xs)
      (λ q k. ap (bytes 8) (tabulate-at m (λ q. from_bytes (piece 8 q xs)) 0 q k)
      ∙ ap (λ (n : ℕ). bytes n (from_bytes (piece 8 q xs))) (sym (long q k)) ∙ bytes-number (piece 8 q xs) (piece_bytes 8 q xs h))
      ∙ join-piece m 8 xs ∙ take_all (m * 8) xs (omega (arith, e))

  packed-words : All (λ w. word w ≡ true) (pack m xs)
  packed-words = tabulate-all (λ w. word w ≡ true) m (λ q. from_bytes (piece 8 q xs)) (λ q k. lt-ltb _ _ (is_word (piece 8 q xs) (piece_bytes 8 q xs h) (long q k)))

packed-long : (m : ℕ) (xs : List ℕ) → length (pack m xs) ≡ m
packed-long m xs = length-tabulate m (λ q. from_bytes (piece 8 q xs))

record Words (ps : List ℕ) : Type 0 where
  long-enough : length ps ≡ 71
  flag : get_or ps 0 0 < 2
  words : All (λ w. word w ≡ true) (drop 3 ps)

facts : (ps : List ℕ) → is_repair ps ≡ true → Words ps
unfolding is_repair
facts ps h =
    let e = alls-hold (eqb (length ps) 71 ∷ ltb (get_or ps 0 0) 2 ∷ every word (drop 3 ps) ∷ []) h in
    record { long-enough = eqb-true _ _ e.0; flag = ltb-true _ _ e.1.0; words = every-all word (drop 3 ps) e.1.1.0 }

flag_is : (w : ℕ) → w < 2 → pick (eqb w 1) 1 0 ≡ w
flag_is zero h = refl
flag_is (suc zero) h = refl
flag_is (suc (suc w)) h = absurd (omega arith)

module _ (ps : List ℕ) (h : is_repair ps ≡ true) where
  f : Words ps
  f = facts ps h

  n3 : length (drop 3 ps) ≡ 68
  n3 = omega (arith, length-drop 3 ps, f.long-enough)

  n7 : length (drop 7 ps) ≡ 64
  n7 = omega (arith, length-drop 7 ps, f.long-enough)

  n39 : length (drop 39 ps) ≡ 32
  n39 = omega (arith, length-drop 39 ps, f.long-enough)

  d7 : drop 4 (drop 3 ps) ≡ drop 7 ps
  d7 = drop-drop 4 3 ps

  d39 : drop 32 (drop 7 ps) ≡ drop 39 ps
  d39 = drop-drop 32 7 ps

  w7 : All (λ w. word w ≡ true) (drop 7 ps)
  w7 = subst (All (λ w. word w ≡ true)) d7 (drop-alls (λ w. word w ≡ true) 4 (drop 3 ps) f.words)

  w39 : All (λ w. word w ≡ true) (drop 39 ps)
  w39 = subst (All (λ w. word w ≡ true)) d39 (drop-alls (λ w. word w ≡ true) 32 (drop 7 ps) w7)

  l3 : length (take 4 (drop 3 ps)) ≡ 4
  l3 = length-take-le 4 (drop 3 ps) (omega (arith, n3))

  l7 : length (take 32 (drop 7 ps)) ≡ 32
  l7 = length-take-le 32 (drop 7 ps) (omega (arith, n7))

  words_back : repair_words_of (repair_from ps) ≡ ps
  words_back =
      let a = words-packed 4 (take 4 (drop 3 ps)) l3 (take-alls (λ w. word w ≡ true) 4 (drop 3 ps) f.words) in
      let b = words-packed 32 (take 32 (drop 7 ps)) l7 (take-alls (λ w. word w ≡ true) 32 (drop 7 ps) w7) in
      let c = words-packed 32 (drop 39 ps) n39 w39 in
      let tail : take 32 (drop 7 ps) ++ drop 39 ps ≡ drop 7 ps = ap (λ (l : List ℕ). take 32 (drop 7 ps) ++ l) (sym d39) ∙ take-append-drop 32 (drop 7 ps) in
      let all : take 4 (drop 3 ps) ++ drop 7 ps ≡ drop 3 ps = ap (λ (l : List ℕ). take 4 (drop 3 ps) ++ l) (sym d7) ∙ take-append-drop 4 (drop 3 ps) in
      ap₂ {C = List ℕ} (λ (w : ℕ) (l : List ℕ). w ∷ get_or ps 1 0 ∷ get_or ps 2 0 ∷ l) (flag_is (get_or ps 0 0) f.flag)
      (ap₂ {C = List ℕ} (λ (x y : List ℕ). x ++ y) a (ap₂ {C = List ℕ} (λ (x y : List ℕ). x ++ y) b c ∙ tail) ∙ all)
      ∙ ap (λ (l : List ℕ). l ++ drop 3 ps) (tabulate-take 3 ps (omega (arith, f.long-enough))) ∙ take-append-drop 3 ps

  is-arrays : Arrays (repair_from ps)
  is-arrays = record {
    fresh-long = omega (arith, length-joined 8 (bytes 8) (length-bytes 8) (take 4 (drop 3 ps)), l3);
    fresh-bytes = points-bytes (take 4 (drop 3 ps));
    helpers-long = omega (arith, length-joined 8 (bytes 8) (length-bytes 8) (take 32 (drop 7 ps)), l7);
    helpers-bytes = points-bytes (take 32 (drop 7 ps));
    stand-ins-long = omega (arith, length-joined 8 (bytes 8) (length-bytes 8) (drop 39 ps), n39);
    stand-ins-bytes = points-bytes (drop 39 ps);
  }

flag-few : (b : Bool) → pick b 1 0 < 2
flag-few true = omega arith
flag-few false = omega arith

is-flag : (b : Bool) → eqb (pick b 1 0) 1 ≡ b
is-flag true = refl
is-flag false = refl

module _ (p : Running) (a : Arrays p) where
  abbrev x : List ℕ
  x = pack 4 p.fresh

  abbrev y : List ℕ
  y = pack 32 p.helpers

  abbrev z : List ℕ
  z = pack 32 p.stand_ins

  are_words : is_repair (repair_words_of p) ≡ true
  unfolding is_repair
  are_words =
      let n : length (x ++ (y ++ z)) ≡ 68 =
      length-append x (y ++ z) ∙ ap₂ ◌+◌ (packed-long 4 p.fresh) (length-append y z ∙ ap₂ ◌+◌ (packed-long 32 p.helpers) (packed-long 32 p.stand_ins)) in
      hold-alls (eqb (suc (suc (suc (length (x ++ (y ++ z)))))) 71 ∷ ltb (pick p.running 1 0) 2 ∷ every word (x ++ (y ++ z)) ∷ []) (
        eq-eqb (suc (suc (suc (length (x ++ (y ++ z)))))) 71 (omega (arith, n)),
        (
          lt-ltb (pick p.running 1 0) 2 (flag-few p.running),
          (
            all-every word (x ++ (y ++ z))
                (append-all (λ w. word w ≡ true) x (y ++ z) (packed-words 4 p.fresh a.fresh-bytes a.fresh-long)
                (append-all (λ w. word w ≡ true) y z (packed-words 32 p.helpers a.helpers-bytes a.helpers-long)
                (packed-words 32 p.stand_ins a.stand-ins-bytes a.stand-ins-long))),
            tt,
          ),
        ),
      )

  repair-back : repair_from (repair_words_of p) ≡ p
  repair-back =
      let d : drop 4 (x ++ (y ++ z)) ≡ y ++ z = drop_at x (y ++ z) 4 (packed-long 4 p.fresh) in
      let e1 : take 4 (x ++ (y ++ z)) ≡ x = take_at x (y ++ z) 4 (packed-long 4 p.fresh) in
      let e2 : take 32 (drop 4 (x ++ (y ++ z))) ≡ y = ap (take 32) d ∙ take_at y z 32 (packed-long 32 p.helpers) in
      let e3 : drop 36 (x ++ (y ++ z)) ≡ z = sym (drop-drop 32 4 (x ++ (y ++ z))) ∙ ap (drop 32) d ∙ drop_at y z 32 (packed-long 32 p.helpers) in
      ap₂ {C = Running} (λ (b : Bool) (l : List ℕ). made b l (take 32 (drop 4 (x ++ (y ++ z)))) (drop 36 (x ++ (y ++ z)))) (is-flag p.running) e1
      ∙ ap₂ {C = Running} (λ (m n : List ℕ). made p.running x m n) e2 e3
      ∙ ap (λ (l : List ℕ). record { running = p.running; count = p.count; carried = p.carried; fresh = l; helpers = joined (bytes 8) y; stand_ins = joined (bytes 8) z })
      (packed-bytes 4 p.fresh a.fresh-bytes a.fresh-long)
      ∙ ap₂ {C = Running} (λ (m n : List ℕ). record { running = p.running; count = p.count; carried = p.carried; fresh = p.fresh; helpers = m; stand_ins = n })
      (packed-bytes 32 p.helpers a.helpers-bytes a.helpers-long) (packed-bytes 32 p.stand_ins a.stand-ins-bytes a.stand-ins-long)
    where
      -- the record of these words of its arrays
      made : Bool → List ℕ → List ℕ → List ℕ → Running
      made b l m n =
          record { running = b; count = p.count; carried = p.carried; fresh = joined (bytes 8) l; helpers = joined (bytes 8) m; stand_ins = joined (bytes 8) n }

-- ---- the words in their places

packed-at : (m : ℕ) (xs : List ℕ) → Bytes xs → (q j : ℕ) → q < m → j < 8 → get_or (pack m xs) q 0 / 256 ^ j % 256 ≡ get_or xs (8 * q + j) 0
packed-at m xs h q j k l =
    ap (λ (w : ℕ). w / 256 ^ j % 256) (tabulate-at m (λ q. from_bytes (piece 8 q xs)) 0 q k)
    ∙ byte_at (piece 8 q xs) (piece_bytes 8 q xs h) j
    ∙ piece-at 8 q xs j 0 l
    ∙ ap (λ (n : ℕ). get_or xs (n + j) 0) (mul_comm q 8)

-- an entry of the second list of two, by its place in both
beyond : (l m : List ℕ) (n i : ℕ) → length l ≡ n → get_or (l ++ m) (n + i) 0 ≡ get_or m i 0
beyond l m n i e = sym (get_or-drop n (l ++ m) i 0) ∙ ap (λ (k : List ℕ). get_or k i 0) (drop_at l m n e)

module _ (p : Running) where
  abbrev first_three : List ℕ
  first_three = take 3 (repair_words_of p)

  words-length : length (repair_words_of p) ≡ 71
  words-length =
      let n : length (pack 4 p.fresh ++ (pack 32 p.helpers ++ pack 32 p.stand_ins)) ≡ 68 =
      length-append (pack 4 p.fresh) (pack 32 p.helpers ++ pack 32 p.stand_ins)
      ∙ ap₂ ◌+◌ (packed-long 4 p.fresh) (length-append (pack 32 p.helpers) (pack 32 p.stand_ins) ∙ ap₂ ◌+◌ (packed-long 32 p.helpers) (packed-long 32 p.stand_ins)) in
      omega (arith, n)

  fresh_at : Bytes p.fresh → (q j : ℕ) → q < 4 → j < 8 → get_or (repair_words_of p) (3 + q) 0 / 256 ^ j % 256 ≡ get_or p.fresh (8 * q + j) 0
  fresh_at h q j k l =
      ap (λ (w : ℕ). w / 256 ^ j % 256)
      (beyond first_three (pack 4 p.fresh ++ (pack 32 p.helpers ++ pack 32 p.stand_ins)) 3 q refl
      ∙ get_or-append (pack 4 p.fresh) (pack 32 p.helpers ++ pack 32 p.stand_ins) 0 q (omega (arith, packed-long 4 p.fresh, k)))
      ∙ packed-at 4 p.fresh h q j k l

  helpers-at : Bytes p.helpers → (q j : ℕ) → q < 32 → j < 8 → get_or (repair_words_of p) (7 + q) 0 / 256 ^ j % 256 ≡ get_or p.helpers (8 * q + j) 0
  helpers-at h q j k l =
      let e : 7 + q ≡ 3 + (4 + q) = omega arith in
      ap (λ (w : ℕ). w / 256 ^ j % 256)
      (ap (λ (n : ℕ). get_or (repair_words_of p) n 0) e
      ∙ beyond first_three (pack 4 p.fresh ++ (pack 32 p.helpers ++ pack 32 p.stand_ins)) 3 (4 + q) refl
      ∙ beyond (pack 4 p.fresh) (pack 32 p.helpers ++ pack 32 p.stand_ins) 4 q (packed-long 4 p.fresh)
      ∙ get_or-append (pack 32 p.helpers) (pack 32 p.stand_ins) 0 q (omega (arith, packed-long 32 p.helpers, k)))
      ∙ packed-at 32 p.helpers h q j k l

  stand-ins-at : Bytes p.stand_ins → (q j : ℕ) → q < 32 → j < 8 → get_or (repair_words_of p) (39 + q) 0 / 256 ^ j % 256 ≡ get_or p.stand_ins (8 * q + j) 0
  stand-ins-at h q j k l =
      let e : 39 + q ≡ 3 + (4 + (32 + q)) = omega arith in
      ap (λ (w : ℕ). w / 256 ^ j % 256)
      (ap (λ (n : ℕ). get_or (repair_words_of p) n 0) e
      ∙ beyond first_three (pack 4 p.fresh ++ (pack 32 p.helpers ++ pack 32 p.stand_ins)) 3 (4 + (32 + q)) refl
      ∙ beyond (pack 4 p.fresh) (pack 32 p.helpers ++ pack 32 p.stand_ins) 4 (32 + q) (packed-long 4 p.fresh)
      ∙ beyond (pack 32 p.helpers) (pack 32 p.stand_ins) 32 q (packed-long 32 p.helpers))
      ∙ packed-at 32 p.stand_ins h q j k l

below_word : (w : ℕ) → word w ≡ true → w < 18446744073709551616
below_word w h = ltb-true w 18446744073709551616 h

is-repair-is : (ps : List ℕ) → (is_repair ps ≡ true) ↔ ((length ps ≡ 71) × (get_or ps 0 0 < 2) × All (λ w. w < 18446744073709551616) (drop 3 ps))
unfolding is_repair
is-repair-is ps = (
  (λ h. let f = facts ps h in (f.long-enough, f.flag, all-imp (λ w. word w ≡ true) (λ w. w < 18446744073709551616) below_word (drop 3 ps) f.words)),
  (λ h. hold-alls (eqb (length ps) 71 ∷ ltb (get_or ps 0 0) 2 ∷ every word (drop 3 ps) ∷ []) (
    eq-eqb _ _ h.0,
    (
      lt-ltb _ _ h.1,
      (all-every word (drop 3 ps) (all-imp (λ w. w < 18446744073709551616) (λ w. word w ≡ true) (λ w k. lt-ltb w 18446744073709551616 k) (drop 3 ps) h.2), tt),
    ),
  )),
)

pub repair-words : RepairWordLaws
unfolding piece
repair-words = record {
  words_back = words_back;
  is-arrays = is-arrays;
  are_words = are_words;
  repair-back = repair-back;
  is-repair-is = is-repair-is;
  words-length = words-length;
  first-words = λ p. refl;
  fresh_at = fresh_at;
  helpers-at = helpers-at;
  stand-ins-at = stand-ins-at;
  idle-words = refl;
  first-tells = λ ps. refl;
}
