-- The walk over texts: what is known of the heads so far, one turn, a place where no text stands, and the end.
-- Assumes nothing.
use mathlib.Core.Path.{◌≡◌, refl, sym, ap, ap₂, ◌∙◌}
use mathlib.Core.Bool.{Bool, true, false, not}
use mathlib.Core.Option.{some, none}
use mathlib.Core.List.{List, [], ◌∷◌, ◌++◌, map, append_assoc}
use Prim.Native.Nat.{ℕ, zero, suc, ◌+◌, ◌≤◌, ◌<◌}
use native.Mathlib.Omega.{arith}
use lib.ListN.{length, drop, set, length-append, length-drop, length-map, drop_of_length-le}
use borrow.Author.Tests.{not-true, not-false}
use Rattle.lists.specs.Tests.{pick, every}
use Rattle.lists.specs.Lists.{All, fit}
use Rattle.lists.proofs.Alls.{append-all}
use Rattle.lists.proofs.Pieces.{map-append, length-fit}
use Rattle.lists.proofs.Tests.{true-false}
use Rattle.sizes.specs.declared.Sizes.{Sizes}
use Rattle.text_spec.specs.Texts.{ShareTold, text_of, texts_joined, Found, text_at}
use Rattle.text_spec.specs.Laws.{Writable}
use Rattle.text_spec.proofs.Laws.{reads-writes}
use Rattle.text_head.specs.declared.Head.{Head}
use Rattle.text_head.specs.Steps.{told_by, Stands}
use Rattle.text_scan.specs.declared.Scan.{Scan}
use Rattle.text_scan.specs.Steps.{like_head, Inside, Scanned}
use Rattle.text_scan.proofs.Prefix.{none-behind, all-these}

-- ---- one more at the end of a list

set-fit : (m : ℕ) (l : List ℕ) (v : ℕ) → set (fit m l) (length l) v ≡ fit m (l ++ (v ∷ []))
set-fit zero l v = refl
set-fit (suc m) [] v = refl
set-fit (suc m) (x ∷ l) v = ap {B = List ℕ} (λ r. x ∷ r) (set-fit m l v)

every_more : {A : Type 0} (p : A → Bool) (l : List A) (x : A) → every p (l ++ (x ∷ [])) ≡ pick (p x) (every p l) false
every_more p [] x = refl
every_more p (y ∷ l) x = ap (λ (t : Bool). pick (p y) t false) (every_more p l x) ∙ turned (p y) (p x) (every p l)
  where
    turned : (a b t : Bool) → pick a (pick b t false) false ≡ pick b (pick a t false) false
    turned true b t = refl
    turned false true t = refl
    turned false false t = refl

joined-more : (ts : List ShareTold) (t : ShareTold) (rest : List ℕ) → texts_joined (ts ++ (t ∷ [])) ++ rest ≡ texts_joined ts ++ (text_of t ++ rest)
joined-more [] t rest = append_assoc (text_of t) [] rest
joined-more (u ∷ ts) t rest =
    append_assoc (text_of u) (texts_joined (ts ++ (t ∷ []))) rest
    ∙ ap (λ (l : List ℕ). text_of u ++ l) (joined-more ts t rest)
    ∙ sym (append_assoc (text_of u) (texts_joined ts) (text_of t ++ rest))

-- a number of each head, noted at the place behind the last
noted : (f : Head → ℕ) (hs : List Head) (h : Head) (list : List ℕ) (count : ℕ) → list ≡ fit 32 (map f hs) → count ≡ length hs
    → set list count (f h) ≡ fit 32 (map f (hs ++ (h ∷ [])))
noted f hs h list count e c =
    ap₂ {C = List ℕ} (λ (l : List ℕ) (n : ℕ). set l n (f h)) e (c ∙ sym (length-map hs f))
    ∙ set-fit 32 (map f hs) (f h)
    ∙ ap (fit 32) (sym (map-append f hs (h ∷ [])))

-- ---- the walk

-- both lists keep their length
pub same-room : (f : Head → ℕ) (hs : List Head) (a b : List ℕ) → a ≡ fit 32 (map f hs) → b ≡ fit 32 [] → length a ≡ length b
same-room f hs a b e q = ap length e ∙ length-fit 32 (map f hs) ∙ sym (ap length q ∙ length-fit 32 [])

-- one more is alike or not, by what was answered of it
module _ (p answer alike t : Bool) (e : answer ≡ p) where
  pub not_alike : not answer ≡ true → t ≡ false → t ≡ pick p alike false
  not_alike n q = q ∙ ap (λ (b : Bool). pick b alike false) (sym (not-true answer n) ∙ e)

  pub still_alike : not answer ≡ false → t ≡ alike → t ≡ pick p alike false
  still_alike n q = q ∙ ap (λ (b : Bool). pick b alike false) (sym (not-false answer n) ∙ e)

module _ (text : List ℕ) (z : Sizes) (xs : List ℕ) (L : ℕ) where
  -- the texts before a place, by their heads
  pub record Walked (nodes places : List ℕ) (at count : ℕ) (alike : Bool) (hs : List Head) : Type 0 where
    pub before : text ≡ texts_joined (map (told_by text) hs) ++ drop at text
    pub written : All Writable (map (told_by text) hs)
    pub counted : count ≡ length hs
    pub few : count ≤ at
    pub within : at ≤ length text
    pub compared : alike ≡ every (like_head z xs L) hs
    pub boards : nodes ≡ fit 32 (map (λ (h : Head). h.node) hs)
    pub begin : places ≡ fit 32 (map (λ (h : Head). h.place) hs)
    pub inside : All (Inside text) hs

  -- some heads
  abbrev pub Some-walked : List ℕ → List ℕ → ℕ → ℕ → Bool → Type 0
  Some-walked nodes places at count alike = (hs : List Head) × Walked nodes places at count alike hs

  pub walk_begins : (nodes places : List ℕ) → nodes ≡ fit 32 [] → places ≡ fit 32 [] → Some-walked nodes places 0 0 true
  walk_begins nodes places e f = (
    [],
    record { before = refl; written = tt; counted = refl; few = omega arith; within = omega arith; compared = refl; boards = e; begin = f; inside = tt },
  )

  module _ (nodes places : List ℕ) (at count : ℕ) (alike : Bool) (k : Some-walked nodes places at count alike) where
    abbrev hs : List Head
    hs = k.0

    abbrev w : Walked nodes places at count alike hs
    w = k.1

    module _ (h : Head) (s : Stands text at h) where
      abbrev found : Found
      found = record { told = told_by text h; behind = drop h.next text }

      by : (b : Bool) → h.ok ≡ b → text_at (drop at text) ≡ pick b (some found) none
      by b e = s.is-text ∙ ap (λ (t : Bool). pick t (some found) none) e

      -- one more text
      pub walk-on : h.ok ≡ true → (ns ps : List ℕ) (t : Bool) → ns ≡ set nodes count h.node → ps ≡ set places count h.place
          → t ≡ pick (like_head z xs L h) alike false → Some-walked ns ps h.next (count + 1) t
      walk-on o ns ps t en ep et =
          let r = reads-writes (drop at text) found (by true o) in
          let more = map-append (told_by text) hs (h ∷ []) in (
            hs ++ (h ∷ []),
            record {
              before =
                  w.before
                  ∙ ap (λ (l : List ℕ). texts_joined (map (told_by text) hs) ++ l) r.0
                  ∙ sym (joined-more (map (told_by text) hs) (told_by text h) (drop h.next text))
                  ∙ ap (λ (ts : List ShareTold). texts_joined ts ++ drop h.next text) (sym more);
              written = rw more (append-all Writable (map (told_by text) hs) (told_by text h ∷ []) w.written (r.1, tt));
              counted = omega (arith, w.counted, length-append hs (h ∷ []));
              few = omega (arith, w.few, s.grows o);
              within = s.ends o;
              compared = et ∙ ap (λ (t : Bool). pick (like_head z xs L h) t false) w.compared ∙ sym (every_more (like_head z xs L) hs h);
              boards = en ∙ noted (λ (h : Head). h.node) hs h nodes count w.boards w.counted;
              begin = ep ∙ noted (λ (h : Head). h.place) hs h places count w.begin w.counted;
              inside = append-all (Inside text) hs (h ∷ []) w.inside (record { counts = s.counts o; within = omega (arith, s.within o, s.ends o) }, tt);
            },
          )

      -- no text stands there
      pub walk-stops : at < length text → h.ok ≡ false → (r : Scan) → r.ok ≡ false → (ns ps : List ℕ) → Scanned text z xs L r ns ps
      walk-stops l o r e ns ps = record {
        no-texts = λ _. none-behind text (map (told_by text) hs) (drop at text) w.written w.before (omega (arith, l, length-drop at text)) (by false o);
        heads = λ t. absurd (true-false t e);
      }

    -- the end
    pub walk_ends : length text ≤ at → Scanned text z xs L (record { ok = true; alike = alike; count = count }) nodes places
    walk_ends l = record {
      no-texts = λ e. absurd (true-false refl e);
      heads = λ _. (
        hs,
        record {
          are-texts =
              all-these text (map (told_by text) hs) w.written
              (w.before ∙ ap (λ (m : List ℕ). texts_joined (map (told_by text) hs) ++ m) (drop_of_length-le text l));
          counted = w.counted;
          compared = w.compared;
          boards = w.boards;
          begin = w.begin;
          inside = w.inside;
        },
      );
    }
