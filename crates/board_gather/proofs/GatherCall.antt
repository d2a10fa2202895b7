-- The gathering's outcome, by the heads of the texts.
-- Assumes nothing.
use mathlib.Core.Path.{◌≡◌, refl, sym, ap, ap₂, subst, ◌∙◌}
use mathlib.Core.Bool.{Bool, true, false, not}
use mathlib.Core.Logic.{◌≢◌}
use mathlib.Core.Option.{Option, some, none}
use mathlib.Core.List.{List, [], ◌∷◌, ◌++◌, map}
use Prim.Native.Nat.{ℕ, ◌*◌, ◌-◌, ◌≤◌, ◌<◌}
use native.Mathlib.Nat.{add-zero}
use native.Mathlib.Omega.{arith}
use lib.Dec.{leb, eqb}
use lib.ListN.{length, length-map, take, drop}
use borrow.Author.Tests.{ltb-true, leb-true, ne_eqb}
use Rattle.lists.specs.Tests.{pick, alls, every, given}
use Rattle.lists.specs.Lists.{All, fit}
use Rattle.lists.proofs.Boards.{all-below}
use Rattle.lists.proofs.Pieces.{length-fit, take-fit}
use Rattle.lists.proofs.Tests.{every-all}
use Rattle.sizes.specs.declared.Sizes.{Sizes}
use Rattle.sizes.specs.declared.Refusal.TheVariants.{Text, Mixed, Count, Disagree}
use Rattle.std.specs.Prelude.{Err}
use Rattle.sizes.specs.Sizing.{α, stripes}
use Rattle.sizes.specs.Refusals.{◌when◌, first, board_order}
use Rattle.sizes.proofs.Legal.{legal-facts}
use Rattle.board_spec.specs.Calls.{BoardOutcome, settled, file_of, file_call, count_line, repeat_line, short_line}
use Rattle.board_lines.specs.Outcomes.{outcome}
use Rattle.text_spec.specs.Texts.{ShareTold, texts_joined, Found, text_at, texts_of}
use Rattle.text_spec.specs.Calls.{texts_told, first_of, like, nodes_of, shares_of, gathered, gather_lines, gather_call}
use Rattle.text_spec.specs.Laws.{Writable}
use Rattle.text_spec.specs.Demand1.{Like}
use Rattle.text_spec.proofs.Alike.{like_is}
use Rattle.text_spec.proofs.Gather.{is-file}
use Rattle.text_spec.proofs.Laws.{Facts, facts-of, writes_reads, texts-told}
use Rattle.text_head.specs.declared.Head.{Head}
use Rattle.text_head.specs.Steps.{told_by, Stands}
use Rattle.text_scan.specs.declared.Scan.{Scan}
use Rattle.text_scan.specs.Steps.{like_head, Inside, Heads}
use Rattle.text_scan.proofs.Prefix.{none-behind}
use Rattle.text_in.specs.Steps.{bytes_at}
use Rattle.text_stripes.specs.Steps.{spelled, Spelled}
use Rattle.gather_told.specs.Steps.{Ready, file_told}

-- what heads tell, in lists
abbrev pub nodes_by : List Head → List ℕ
nodes_by hs = map (λ (h : Head). h.node) hs

abbrev pub places_by : List Head → List ℕ
places_by hs = map (λ (h : Head). h.place) hs

-- k texts that are alike: the lists of boards and places, as they are lent, and what is gathered from them
pub record Told (text output : List ℕ) (f : Head) (nodes places : List ℕ) : Type 0 where
  pub boards-enough : f.sizes.k ≤ length nodes
  pub places-enough : f.sizes.k ≤ length places
  pub ready : Ready text f.sizes f.points f.length (take (f.sizes.k - 0) (drop 0 nodes)) (take (f.sizes.k - 0) (drop 0 places))
  pub gathers : gather_call text output
      ≡ file_told text f.sizes f.points f.length (take (f.sizes.k - 0) (drop 0 nodes)) (take (f.sizes.k - 0) (drop 0 places)) output

some_is : {X : Type 0} {x y : X} → ◌≡◌ {A = Option X} (some x) (some y) → x ≡ y
some_is e = cc

none_both : (b : Bool) → alls (b ∷ false ∷ []) ≡ false
none_both true = refl
none_both false = refl

no_bytes : (l : List ℕ) → length l ≡ 0 → texts_of l ≡ some []
unfolding texts_of
no_bytes [] e = refl
no_bytes (x ∷ l) e = absurd (omega (arith, e))

module _ (text output : List ℕ) where
  abbrev by : Option (List ShareTold) → BoardOutcome
  by o =
      let ts = texts_told o in
      settled (first board_order (
      Text when not (given o)
      ∷ Mixed when not (every (like (first_of ts)) ts)
      ∷ count_line (leb 1 (length ts) ∷ eqb (length ts) (first_of ts).sizes.k ∷ [])
      ∷ repeat_line (nodes_of ts)
      ∷ short_line output (first_of ts).length
      ∷ Disagree when not (given (gathered ts))
      ∷ [])) (file_of (gathered ts)) output

  call_by : (o : Option (List ShareTold)) → texts_of text ≡ o → gather_call text output ≡ by o
  unfolding gather_call gather_lines
  call_by o e = ap by e

  -- no text at all
  pub refuses-none : length text ≡ 0 → outcome (Err Count) output ≡ gather_call text output
  refuses-none e = sym (call_by (some []) (no_bytes text e))

  -- no texts
  pub refuses-text : texts_of text ≡ none → outcome (Err Text) output ≡ gather_call text output
  refuses-text e = sym (call_by none e)

  module _ (f : Head) (s : Stands text 0 f) (l : 0 < length text) where
    pub refuses-first : f.ok ≡ false → outcome (Err Text) output ≡ gather_call text output
    refuses-first e =
        refuses-text (none-behind text [] text tt refl l
        (s.is-text ∙ ap (λ (t : Bool). pick t (some (record { told = told_by text f; behind = drop f.next text })) none) e))

    module _ (e : f.ok ≡ true) where
      stands : text_at text ≡ some (record { told = told_by text f; behind = drop f.next text })
      stands = s.is-text ∙ ap (λ (t : Bool). pick t (some (record { told = told_by text f; behind = drop f.next text })) none) e

      -- the first of the texts is the one that stands first
      pub first-told : (h : Head) (hs : List Head) → texts_of text ≡ some (map (told_by text) (h ∷ hs)) → told_by text h ≡ told_by text f
      first-told h hs q =
          let w = (texts-told text (map (told_by text) (h ∷ hs))).0 q in
          ap (λ (x : Found). x.told) (some_is (sym (writes_reads (told_by text h) w.1.0 (texts_joined (map (told_by text) hs))) ∙ ap text_at (sym w.0) ∙ stands))

      none_told : texts_of text ≡ some [] → ⊥
      none_told q = omega (arith, l, ap length ((texts-told text []).0 q).0)

      -- alike, by heads
      like-heads : (hs : List Head) → every (like (told_by text f)) (map (told_by text) hs) ≡ every (like_head f.sizes f.points f.length) hs
      like-heads [] = refl
      like-heads (h ∷ hs) = ap (λ (b : Bool). pick (like_head f.sizes f.points f.length h) b false) (like-heads hs)

      module _ (h : Head) (us : List Head) (q : texts_of text ≡ some (map (told_by text) (h ∷ us))) where
        abbrev hs : List Head
        hs = h ∷ us

        abbrev ts : List ShareTold
        ts = map (told_by text) hs

        compared : every (like (first_of ts)) ts ≡ every (like_head f.sizes f.points f.length) hs
        compared = ap (λ (t : ShareTold). every (like t) ts) (first-told h us q) ∙ like-heads hs

        mixed : every (like_head f.sizes f.points f.length) hs ≡ false → outcome (Err Mixed) output ≡ gather_call text output
        mixed m =
            sym (call_by (some ts) q
            ∙ ap (λ (b : Bool). settled (first board_order (
            Text when false
            ∷ Mixed when not b
            ∷ count_line (leb 1 (length ts) ∷ eqb (length ts) (first_of ts).sizes.k ∷ [])
            ∷ repeat_line (nodes_of ts)
            ∷ short_line output (first_of ts).length
            ∷ Disagree when not (given (gathered ts))
            ∷ [])) (file_of (gathered ts)) output) (compared ∙ m))

        miscounted : every (like_head f.sizes f.points f.length) hs ≡ true → length hs ≢ f.sizes.k → outcome (Err Count) output ≡ gather_call text output
        miscounted m n =
            let c : eqb (length ts) (first_of ts).sizes.k ≡ false =
            ne_eqb _ _ (λ x. n (sym (length-map hs (told_by text)) ∙ x ∙ ap (λ (t : ShareTold). t.sizes.k) (first-told h us q))) in
            sym (call_by (some ts) q
            ∙ ap₂ {C = BoardOutcome} (λ (b c : Bool). settled (first board_order (
            Text when false
            ∷ Mixed when not b
            ∷ Count when not c
            ∷ repeat_line (nodes_of ts)
            ∷ short_line output (first_of ts).length
            ∷ Disagree when not (given (gathered ts))
            ∷ [])) (file_of (gathered ts)) output) (compared ∙ m) (ap (λ (b : Bool). alls (leb 1 (length ts) ∷ b ∷ [])) c ∙ none_both (leb 1 (length ts))))

        -- k texts that are alike
        module _ (m : every (like_head f.sizes f.points f.length) hs ≡ true) (inside : All (Inside text) hs) where
          abbrev t : ShareTold
          t = told_by text f

          abbrev width : ℕ
          width = stripes f.sizes f.length * α f.sizes

          written : All Writable ts
          written = ((texts-told text ts).0 q).1

          likes : (us : List Head) → All (λ h. like_head f.sizes f.points f.length h ≡ true) us → All (Like t) (map (told_by text) us)
          likes [] a = tt
          likes (u ∷ us) a = ((like_is t (told_by text u)).0 a.0, likes us a.1)

          alike : All (Like t) ts
          alike = likes hs (every-all (like_head f.sizes f.points f.length) hs m)

          facts : Facts t
          facts = facts-of t (subst (λ (u : ShareTold). Writable u) (first-told h us q) written.0).0

          -- each share has as many bytes
          wide : (us : List Head) → All (Inside text) us → All (Like t) (map (told_by text) us) → All (λ h. h.count ≡ width) us
          wide [] i a = tt
          wide (u ∷ us) i a =
              (i.0.counts ∙ ap₂ {C = ℕ} (λ (z : Sizes) (L : ℕ). stripes z L * α z) (sym a.0.0) (sym a.0.2), wide us i.1 a.1)

          nodes-are : (us : List Head) → nodes_of (map (told_by text) us) ≡ nodes_by us
          nodes-are [] = refl
          nodes-are (u ∷ us) = ap {B = List ℕ} (λ l. u.node ∷ l) (nodes-are us)

          shares-are : (us : List Head) → All (λ h. h.count ≡ width) us → shares_of (map (told_by text) us) ≡ spelled text (places_by us) 0 width
          unfolding spelled
          shares-are [] a = refl
          shares-are (u ∷ us) a =
              ap₂ {C = List ℕ} (λ (n : ℕ) (l : List ℕ). bytes_at text u.place n ++ l) a.0 (shares-are us a.1)
              ∙ ap (λ (p : ℕ). bytes_at text p width ++ spelled text (places_by us) 0 width) (sym (add-zero u.place))

          pub gathers : gather_call text output ≡ file_told text f.sizes f.points f.length (nodes_by hs) (places_by hs) output
          gathers =
              let fi = first-told h us q in
              ap (λ (l : List ℕ). gather_call l output) ((texts-told text ts).0 q).0
              ∙ is-file (told_by text h) (map (told_by text) us) output written (subst (λ (u : ShareTold). All (Like u) (map (told_by text) us)) (sym fi) alike.1)
              ∙ ap (λ (u : ShareTold). file_call u.sizes u.points u.length (nodes_of ts) (shares_of ts) output) fi
              ∙ ap₂ {C = BoardOutcome} (λ (boards shares : List ℕ). file_call f.sizes f.points f.length boards shares output)
              (nodes-are hs) (shares-are hs (wide hs inside alike))

          nodes-below : (us : List Head) → All Writable (map (told_by text) us) → All (Like t) (map (told_by text) us) → All (λ i. i < f.sizes.n) (nodes_by us)
          nodes-below [] w a = tt
          nodes-below (u ∷ us) w a =
              (subst (λ (z : Sizes). u.node < z.n) (sym a.0.0) (ltb-true _ _ (facts-of (told_by text u) w.0.0).known), nodes-below us w.1 a.1)

          spelt : (us : List Head) → All (Inside text) us → All (λ h. h.count ≡ width) us → Spelled text (places_by us) 0 width
          spelt [] i a = tt
          spelt (u ∷ us) i a = (omega (arith, i.0.within, a.0), spelt us i.1 a.1)

          pub ready : length hs ≡ f.sizes.k → Ready text f.sizes f.points f.length (nodes_by hs) (places_by hs)
          ready c =
              record {
                stated = record { is-legal = facts.is-legal; not-long = leb-true _ _ facts.not-long };
                is-pointed = facts.is-pointed;
                enough = length-map hs (λ (h : Head). h.node) ∙ c;
                known = all-below _ (nodes_by hs) (nodes-below hs written alike);
                as_many = length-map hs (λ (h : Head). h.place) ∙ c;
                spelt = spelt hs inside (wide hs inside alike);
              }

      -- ---- what the walk found

      module _ (r : Scan) (nodes places : List ℕ) (hs : List Head) (found : Heads text f.sizes f.points f.length r nodes places hs) where
        pub refuses-mixed : r.alike ≡ false → outcome (Err Mixed) output ≡ gather_call text output
        refuses-mixed a = go hs found.are-texts (sym found.compared ∙ a)
          where
            go : (hs : List Head) → texts_of text ≡ some (map (told_by text) hs) → every (like_head f.sizes f.points f.length) hs ≡ false
                → outcome (Err Mixed) output ≡ gather_call text output
            go [] q a = absurd (none_told q)
            go (h ∷ us) q a = mixed h us q a

        pub refuses-count : r.alike ≡ true → r.count ≢ f.sizes.k → outcome (Err Count) output ≡ gather_call text output
        refuses-count a n = go hs found.are-texts (sym found.compared ∙ a) (λ x. n (found.counted ∙ x))
          where
            go : (hs : List Head) → texts_of text ≡ some (map (told_by text) hs) → every (like_head f.sizes f.points f.length) hs ≡ true → length hs ≢ f.sizes.k
                → outcome (Err Count) output ≡ gather_call text output
            go [] q a n = absurd (none_told q)
            go (h ∷ us) q a n = miscounted h us q a n

        module _ (a : r.alike ≡ true) (c : r.count ≡ f.sizes.k) where
          many : length hs ≡ f.sizes.k
          many = sym found.counted ∙ c

          abbrev Ends : List Head → Type 0
          Ends hs =
              (gather_call text output ≡ file_told text f.sizes f.points f.length (nodes_by hs) (places_by hs) output)
              × Ready text f.sizes f.points f.length (nodes_by hs) (places_by hs)

          ends : Ends hs
          ends = go hs found.are-texts (sym found.compared ∙ a) many found.inside
            where
              go : (hs : List Head) → texts_of text ≡ some (map (told_by text) hs) → every (like_head f.sizes f.points f.length) hs ≡ true → length hs ≡ f.sizes.k
                  → All (Inside text) hs → Ends hs
              go [] q a m i = absurd (none_told q)
              go (h ∷ us) q a m i = (gathers h us q a i, ready h us q a i m)

          few : f.sizes.k ≤ 32
          few = let g = legal-facts _ ends.1.stated.is-legal in omega (arith, g.read-helpers, g.enough, g.few)

          long-enough : (l m : List ℕ) → l ≡ fit 32 m → f.sizes.k ≤ length l
          long-enough l m e = omega (arith, few, ap length e, length-fit 32 m)

          -- the lists, as they are lent
          lent : (l : List ℕ) → length l ≡ f.sizes.k → take (f.sizes.k - 0) (drop 0 (fit 32 l)) ≡ l
          lent l e = ap (λ (m : ℕ). take m (fit 32 l)) (let z : f.sizes.k - 0 ≡ length l = omega (arith, e) in z) ∙ take-fit 32 l (omega (arith, e, few))

          boards-are : take (f.sizes.k - 0) (drop 0 nodes) ≡ nodes_by hs
          boards-are = ap (λ (l : List ℕ). take (f.sizes.k - 0) (drop 0 l)) found.boards ∙ lent (nodes_by hs) ends.1.enough

          places-are : take (f.sizes.k - 0) (drop 0 places) ≡ places_by hs
          places-are = ap (λ (l : List ℕ). take (f.sizes.k - 0) (drop 0 l)) found.begin ∙ lent (places_by hs) ends.1.as_many

          pub told : Told text output f nodes places
          told =
              record {
                boards-enough = long-enough nodes (nodes_by hs) found.boards;
                places-enough = long-enough places (places_by hs) found.begin;
                ready = rw (boards-are, places-are) ends.1;
                gathers = rw (boards-are, places-are) ends.0;
              }
