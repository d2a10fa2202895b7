-- The tries of a careful read: what one of them tells, and that the first that finds a file finds the one of the definition.
-- Assumes nothing.
use Prim.Native.Nat.{ℕ, zero, suc, ◌+◌, ◌-◌, ◌≤◌, ◌<◌}
use mathlib.Core.Path.{◌≡◌, refl, sym, ◌∙◌, ap, subst}
use mathlib.Core.Bool.{Bool, true, false, not}
use mathlib.Core.List.{List, [], ◌∷◌, ◌++◌, map}
use mathlib.Core.Logic.{◌⊎◌, inl, inr}
use mathlib.Core.Option.{Option, some, none}
use native.Mathlib.Omega.{arith}
use lib.Dec.{leb}
use lib.ListN.{length, get_or, drop, length-map}
use Rattle.lists.specs.Tests.{pick, among, given}
use Rattle.lists.specs.Lists.{All, Bytes, joined, over}
use Rattle.lists.proofs.Alls.{all-imp}
use Rattle.lists.proofs.Boards.{below_all, all-below}
use Rattle.lists.proofs.Tests.{true-false, not-no}
use Rattle.sizes.specs.declared.Refusal.{Refusal}
use Rattle.sizes.specs.declared.Refusal.TheVariants.{Disagree}
use Rattle.std.specs.Prelude.{Ok, Err}
use Rattle.sizes.specs.Refusals.{◌when◌}
use Rattle.mbcr.specs.Demand2.{Named}
use Rattle.mbcr.specs.Share.{share}
use Rattle.board_spec.specs.Calls.{file_of}
use Rattle.store_spec.specs.Record.{Record, area_len, held}
use Rattle.store_spec.specs.Calls.{file_held}
use Rattle.store_spec.specs.Careful.{leaving, first_file, holds_share, agreeing, odd, qualifying, careful_file, odd_report}
use Rattle.store_spec.proofs.Records.{Sound}
use Rattle.store_spec.proofs.Held.{file-has}
use Rattle.store_spec.proofs.Careful.{fact-holds, tries-enough}
use Rattle.line_checks.specs.Steps.{asked}
use Rattle.careful_pairs.specs.Steps.{leaving_pair, found_of, odd_of}
use Rattle.careful_pairs.proofs.Pairs.{length-pair, pair-all, pair-different, pair-among, pair-among-next, told_is, places_from, some_pair, places-low}
use Rattle.store_holds.proofs.Stripes.{file-there}
use Rattle.store_lines.specs.Steps.{record_of}
use Rattle.sizes.proofs.Legal.{Legal}
use Rattle.mbcr.specs.Read.{decoded_file}
use Rattle.mbcr.proofs.Read.{length-decoded-file}
use Rattle.board_spec.proofs.Files.{file-is}
use Rattle.decode_setup.specs.Steps.{Made}
use Rattle.line_checks.proofs.Answers.{passed, refused}
use borrow.Author.Tests.{not-true}
use Rattle.careful_tries.specs.Steps.{Found}

-- by what a test says
pub either : {A : Type 0} (b : Bool) → (b ≡ true → A) → (b ≡ false → A) → A
either true f g = f refl
either false f g = g refl

-- a file that qualifies is the one that was given
qualified : (b : Bool) (f : List ℕ) → given (pick b (some f) none) ≡ b
qualified true f = refl
qualified false f = refl

map-all : (P : List ℕ → Type 0) (Q : ℕ → Type 0) (f : ℕ → List ℕ) → ((x : ℕ) → Q x → P (f x)) → (l : List ℕ) → All Q l → All P (map f l)
map-all P Q f h [] a = tt
map-all P Q f h (x ∷ l) a = (h x a.0, map-all P Q f h l a.1)

map_at : (f : ℕ → List ℕ) (l : List ℕ) (i : ℕ) → i < length l → get_or (map f l) i [] ≡ f (get_or l i 0)
map_at f [] i h = absurd (omega arith)
map_at f (x ∷ l) zero h = refl
map_at f (x ∷ l) (suc i) h = map_at f l i (omega arith)

-- ---- the tries, over any boards

module _ (s : Record) (area boards : List ℕ) where
  -- the file that the boards hold without two, and whether it qualifies
  abbrev pub file : ℕ → Option (List ℕ)
  file p = file_held s area (leaving_pair p boards)

  abbrev pub attempt : ℕ → Option (List ℕ)
  attempt p = qualifying s area boards (file p)

  abbrev held_by : List ℕ → Option (List ℕ)
  held_by l = qualifying s area boards (file_held s area l)

  abbrev pair : ℕ → List ℕ
  pair p = leaving_pair p boards

  -- the first file of the tries from the pair before `end` on; n counts turns
  abbrev pub rest_from : ℕ → ℕ → Option (List ℕ)
  rest_from n end = first_file (map held_by (map pair (places_from n end)))

  -- these are the tries that are left
  abbrev pub Rest : ℕ → Type 0
  Rest end = (n : ℕ) × (end ≤ n) × (careful_file s area boards ≡ rest_from n end)

  -- the k boards hold no file
  pub none-held : (p : ℕ) → given (file p) ≡ false → false ≡ given (attempt p)
  none-held p h = go (file p) h
    where
      go : (o : Option (List ℕ)) → given o ≡ false → false ≡ given (qualifying s area boards o)
      go none e = refl
      go (some f) e = absurd (true-false refl e)

  -- what is left after a try that found none
  pub step-none : (end : ℕ) → 0 < end → Rest end → given (attempt (end - 2)) ≡ false → Rest (end - 2)
  step-none end h r q = next r.0 end h r.1 r.2 q
    where
      first-none : (o : Option (List ℕ)) → given o ≡ false → (os : List (Option (List ℕ))) → first_file (o ∷ os) ≡ first_file os
      first-none none d os = refl
      first-none (some x) d os = absurd (true-false refl d)

      next : (n end : ℕ) → 0 < end → end ≤ n → careful_file s area boards ≡ rest_from n end → given (attempt (end - 2)) ≡ false → Rest (end - 2)
      next zero end h l e q = absurd (omega arith)
      next (suc n) zero h l e q = absurd (omega arith)
      next (suc n) (suc end) h l e q = (n, omega arith, e ∙ first-none (attempt (suc end - 2)) q (map held_by (map pair (places_from n (suc end - 2)))))

  -- one that found the file
  pub step-some : (end : ℕ) → 0 < end → Rest end → given (attempt (end - 2)) ≡ true → (careful_file s area boards ≡ file (end - 2)) × (given (file (end - 2)) ≡ true)
  step-some end h r q = next r.0 end h r.1 r.2 q
    where
      first_some : (o : Option (List ℕ)) → given o ≡ true → (os : List (Option (List ℕ))) → first_file (o ∷ os) ≡ o
      first_some none d os = absurd (true-false d refl)
      first_some (some x) d os = refl

      by : (x : List ℕ) (b : Bool) → given (pick b (some x) none) ≡ true → ◌≡◌ {A = Option (List ℕ)} (pick b (some x) none) (some x)
      by x true v = refl
      by x false v = absurd (true-false v refl)

      which : (o : Option (List ℕ)) → given (qualifying s area boards o) ≡ true → (qualifying s area boards o ≡ o) × (given o ≡ true)
      which none d = absurd (true-false d refl)
      which (some x) d = (by x (leb (s.sizes.k + 1) (length (agreeing s area x boards))) d, refl)

      next : (n end : ℕ) → 0 < end → end ≤ n → careful_file s area boards ≡ rest_from n end → given (attempt (end - 2)) ≡ true
          → (careful_file s area boards ≡ file (end - 2)) × (given (file (end - 2)) ≡ true)
      next zero end h l e q = absurd (omega arith)
      next (suc n) zero h l e q = absurd (omega arith)
      next (suc n) (suc end) h l e q =
          let r = which (file (suc end - 2)) q in
          (e ∙ first_some (attempt (suc end - 2)) q (map held_by (map pair (places_from n (suc end - 2)))) ∙ r.0, r.1)

  -- the tries are over
  pub end_none : (end : ℕ) → end ≡ 0 → Rest end → false ≡ given (careful_file s area boards)
  end_none end z r = over r.0 (r.2 ∙ ap (rest_from r.0) z)
    where
      over : (n : ℕ) → careful_file s area boards ≡ rest_from n 0 → false ≡ given (careful_file s area boards)
      over zero e = sym (ap given e)
      over (suc n) e = sym (ap given e)

-- ---- of a sound record, and k + 2 boards

module _ (s : Record) (area : List ℕ) (g : Sound s) (area-is : length area ≡ area_len s) (ba : Bytes area)
    (boards : List ℕ) (named : Named s.sizes (s.sizes.k + 2) boards) where
  abbrev k : ℕ
  k = s.sizes.k

  pub pair-named : (p : ℕ) → p + 2 ≤ length boards → Named s.sizes k (leaving_pair p boards)
  pair-named p h = (
    omega (arith, length-pair p boards h, named.0),
    all-below s.sizes.n (leaving_pair p boards) (pair-all (λ x. x < s.sizes.n) p boards (below_all s.sizes.n boards named.1)),
    pair-different p boards named.2,
  )

  -- one try, where the k boards hold a file
  module _ (p : ℕ) (hp : p + 2 ≤ length boards) (there : given (file s area boards p) ≡ true) where
    abbrev f : List ℕ
    f = file_of (file s area boards p)

    is_some : file s area boards p ≡ some f
    is_some = file-there (file s area boards p) there

    rest : All (λ j. holds_share s area f j ≡ true) (leaving_pair p boards)
    rest =
        all-imp (λ i. held s area i ≡ share s.sizes s.points f i) (λ j. holds_share s area f j ≡ true) (λ j e. fact-holds s area f j e) (leaving_pair p boards)
        (file-has s area g area-is ba (leaving_pair p boards) (pair-named p hp) f is_some).2

    pub pair-told : (a b : Bool) → a ≡ holds_share s area f (get_or boards p 0) → b ≡ holds_share s area f (get_or boards (p + 1) 0)
        → (found_of a b ≡ given (attempt s area boards p)) × (found_of a b ≡ true → odd_of a b (get_or boards p 0) (get_or boards (p + 1) 0) ≡ odd_report (odd s area f boards))
    pair-told a b ea eb =
        let t = told_is (holds_share s area f) k p boards named.0 hp rest a b ea eb in (
          t.0 ∙ sym (ap (λ (o : Option (List ℕ)). given (qualifying s area boards o)) is_some ∙ qualified _ f),
          t.1,
        )

  -- all of them: each board is left out by one
  few : 2 ≤ length boards
  few = omega (arith, named.0)

  pub all_are : Rest s area boards (length boards)
  all_are = (
    length boards,
    omega arith,
    tries-enough s area g area-is boards named ba (map (pair s area boards) (places_from (length boards) (length boards)))
        (map-all (Named s.sizes k) (λ p. p + 2 ≤ length boards) (pair s area boards) pair-named (places_from (length boards) (length boards))
        (places-low (length boards) (length boards) (length boards) (omega arith) few))
        (λ t h.
        let r = some_pair (length boards) (length boards) t (omega arith) h in (
          r.0,
          omega (arith, r.1, length-map (places_from (length boards) (length boards)) (pair s area boards)),
          subst (λ (l : List ℕ). All (λ j. among (leaving t boards) j ≡ true) l) (sym (map_at (pair s area boards) (places_from (length boards) (length boards)) r.0 r.1))
              (either t (get_or (places_from (length boards) (length boards)) r.0 0) r.2),
        )),
  )
    where
      either : (t q : ℕ) → (t ≡ q) ⊎ (t ≡ suc q) → All (λ j. among (leaving t boards) j ≡ true) (leaving_pair q boards)
      either t q (inl e) = subst (λ (i : ℕ). All (λ j. among (leaving i boards) j ≡ true) (leaving_pair q boards)) (sym e) (pair-among q boards)
      either t q (inr e) = subst (λ (i : ℕ). All (λ j. among (leaving i boards) j ≡ true) (leaving_pair q boards)) (sym e) (pair-among-next q boards)

  -- what a try hands on that found the file
  pub found-by : (end p report : ℕ) (chosen tables : List ℕ) → 0 < end → end ≤ length boards → p ≡ end - 2 → Rest s area boards end → given (attempt s area boards p) ≡ true
      → chosen ≡ leaving_pair p boards → Made s.sizes s.points chosen tables → report ≡ odd_report (odd s area (file_of (file s area boards p)) boards)
      → Found s boards area chosen tables report
  found-by end p report chosen tables h l ep r q ec m eo =
      let w = step-some s area boards end h r (ap (λ (i : ℕ). given (attempt s area boards i)) (sym ep) ∙ q) in
      let is : careful_file s area boards ≡ file s area boards p = w.0 ∙ ap (file s area boards) (sym ep) in
      record {
        named = subst (λ (b : List ℕ). Named s.sizes k b) (sym ec) (pair-named p (omega (arith, ep, l, few)));
        there = ap (λ (b : List ℕ). given (file_held s area b)) ec ∙ ap (λ (i : ℕ). given (file s area boards i)) ep ∙ w.1;
        is-file = is ∙ ap (file_held s area) (sym ec);
        made = m;
        is_odd = eo ∙ ap (λ (o : Option (List ℕ)). odd_report (odd s area (file_of o) boards)) (sym is);
      }

-- ---- DISAGREE, as a try asks it

pub refused_none : (b : Bool) {x : Refusal} → asked (Disagree when not b) ≡ Err x → b ≡ false
refused_none b {x} e = not-true b (refused (Disagree when not b) x e).0

pub passed-some : (b : Bool) → asked (Disagree when not b) ≡ Ok tt → b ≡ true
passed-some b e = not-no b (passed (Disagree when not b) e)

-- ---- the bytes that are written

pub written_is : (s : Record) → Legal s.sizes → (area boards chosen lent tables out written : List ℕ) (report : ℕ) → Found s boards area chosen tables report → lent ≡ chosen
    → written ≡ decoded_file s.sizes s.points s.length lent (joined (held (record_of s.sizes [] s.capacity true s.length []) area) lent) ++ drop s.length out
    → written ≡ over (file_of (careful_file s area boards)) out
written_is s legal area boards chosen lent tables out written report fnd el e =
    let z = s.sizes in
    let H = joined (held s area) chosen in
    let F = file_of (careful_file s area boards) in
    let read : F ≡ decoded_file z s.points s.length chosen H = ap file_of fnd.is-file ∙ file-is z s.points s.length chosen H fnd.there in
    let long : length F ≡ s.length = ap length read ∙ length-decoded-file z s.points legal chosen fnd.named.0 s.length H in
    e ∙ ap (λ (l : List ℕ). decoded_file z s.points s.length l (joined (held s area) l) ++ drop s.length out) el
    ∙ ap (λ (l : List ℕ). l ++ drop s.length out) (sym read) ∙ ap (λ (m : ℕ). F ++ drop m out) (sym long)
