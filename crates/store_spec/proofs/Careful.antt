-- A careful read over any area: it finds a file just where the file's shares agree with at least k + 1 of the k + 2 boards, and there is one such file
-- at most.
-- Assumes nothing.
use Prim.Native.Nat.{ℕ, zero, suc, ◌+◌, ◌*◌, ◌≤◌, ◌<◌}
use mathlib.Core.Path.{◌≡◌, refl, sym, ◌∙◌, ap, ap₂, subst}
use mathlib.Core.Bool.{Bool, true, false, not}
use mathlib.Core.List.{List, [], ◌∷◌, ◌++◌, map}
use mathlib.Core.Logic.{◌≢◌, ◌⊎◌, inl, inr}
use mathlib.Core.Option.{Option, some, none}
use native.Mathlib.Nat.{zero-mul, suc-mul, add_comm}
use native.Mathlib.Omega.{arith}
use lib.Dec.{leb, eqb}
use lib.ListN.{length, get_or, take, drop, length-map, length-drop, take-append-drop}
use lib.Seq.{length-take-le}
use borrow.Author.Tests.{leb-true, le-leb}
use Rattle.lists.specs.Tests.{pick, alls, among, below, different, same, given}
use Rattle.lists.specs.Lists.{All, Bytes, tabulate, join, piece}
use Rattle.lists.proofs.Alls.{all-imp, all-at, take-alls, distinct-left}
use Rattle.lists.proofs.Boards.{below_all, all-below, distinct, distinct-different, all_among, among-head}
use Rattle.lists.proofs.Pieces.{length-tabulate, tabulate-at, tabulate-all, tabulate-ext, piece-zero, piece-suc}
use Rattle.lists.proofs.Tests.{true-false, is_false, same-eq, same_refl}
use Rattle.mbcr.specs.Demand2.{Named}
use Rattle.sizes.specs.Sizing.{α, stripes}
use Rattle.sizes.proofs.Legal.{legal-facts}
use Rattle.mbcr.specs.Share.{stripe, kept, share}
use Rattle.mbcr.proofs.Repair.{length-kept}
use Rattle.store_spec.specs.Calls.{file_held}
use Rattle.store_spec.specs.Careful.{leaving, first_file, holds_share, agreeing, odd, qualifying, careful_file, odd_report}
use Rattle.store_spec.specs.Record.{Record, stripe_count, held, area_len}
use Rattle.store_spec.specs.CarefulLaws.{Holds, OddTold}
use Rattle.store_spec.proofs.Held.{code, held-long, each-shares, file-has, file-is}
use Rattle.store_spec.proofs.Records.{Sound}
use Rattle.store_spec.proofs.Those.{those-count, those-among, among-those, those-none, those-one, none-odd, others-hold, leaving-all, leaving-length, leaving-different}
use Rattle.store_spec.proofs.Those.{leave-odd, first_holds, first-only, first-none}

-- ---- a board holds its share, as a test and as a fact

module _ (s : Record) (area file : List ℕ) where
  pub holds-fact : (i : ℕ) → holds_share s area file i ≡ true → Holds s area file i
  holds-fact i e = same-eq (held s area i) (share s.sizes s.points file i) e

  pub fact-holds : (i : ℕ) → Holds s area file i → holds_share s area file i ≡ true
  fact-holds i e = subst (λ (h : List ℕ). same (held s area i) h ≡ true) e (same_refl (held s area i))

  pub agreeing-is : (boards : List ℕ) (i : ℕ) → (among (agreeing s area file boards) i ≡ true → (among boards i ≡ true) × Holds s area file i)
      × ((among boards i ≡ true) × Holds s area file i → among (agreeing s area file boards) i ≡ true)
  agreeing-is boards i = (
    (λ e. let p = those-among (holds_share s area file) boards i e in (p.0, holds-fact i p.1)),
    (λ p. among-those (holds_share s area file) boards i p.0 (fact-holds i p.1)),
  )

  -- what is reported is 0 or the number plus 1 of one of the boards
  pub odd-named : (boards : List ℕ) → let v = odd_report (odd s area file boards) in (v ≡ 0) ⊎ ((i : ℕ) × (v ≡ suc i) × (among boards i ≡ true))
  odd-named boards = go (odd s area file boards) refl
    where
      go : (l : List ℕ) → odd s area file boards ≡ l → (odd_report l ≡ 0) ⊎ ((i : ℕ) × (odd_report l ≡ suc i) × (among boards i ≡ true))
      go [] e = inl refl
      go (i ∷ l) e = inr (i, refl, (those-among (λ j. not (holds_share s area file j)) boards i (ap (λ (h : List ℕ). among h i) e ∙ among-head i l)).0)

  -- all but at most one of the boards hold their shares: then the report tells which
  pub report-tells : (boards : List ℕ) → length (odd s area file boards) ≤ 1 → OddTold s area file boards (odd_report (odd s area file boards))
  report-tells boards h = go (odd s area file boards) refl h
    where
      go : (o : List ℕ) → odd s area file boards ≡ o → length o ≤ 1 → OddTold s area file boards (odd_report o)
      go [] e k = inl (refl, all-imp _ _ (λ i q. holds-fact i q) boards (none-odd (holds_share s area file) boards e))
      go (i ∷ []) e k =
          let p = those-among (λ j. not (holds_share s area file j)) boards i (subst (λ (o : List ℕ). among o i ≡ true) (sym e) (among-head i [])) in
          inr (
            i,
            refl,
            p.0,
            (λ q. true-false (fact-holds i q) (off (holds_share s area file i) p.1)),
            all-imp _ _ (λ j q n. holds-fact j (q n)) boards (others-hold (holds_share s area file) boards i e),
          )
        where
          off : (b : Bool) → not b ≡ true → b ≡ false
          off true q = sym q
          off false q = refl
      go (i ∷ j ∷ o) e k = absurd (omega arith)

  pub tells-report : (boards : List ℕ) → different boards ≡ true → (v : ℕ) → OddTold s area file boards v → v ≡ odd_report (odd s area file boards)
  tells-report boards d v (inl p) =
      p.0 ∙ ap odd_report (sym (those-none (λ j. not (holds_share s area file j)) boards
      (all-imp _ (λ i. not (holds_share s area file i) ≡ false) (λ i q. ap not (fact-holds i q)) boards p.1)))
  tells-report boards d v (inr p) =
      p.1 ∙ ap odd_report (sym (those-one (λ j. not (holds_share s area file j)) boards p.0 d p.2
      (ap not (is_false (holds_share s area file p.0) (λ e. p.3 (holds-fact p.0 e))))
      (all-imp _ (λ j. j ≢ p.0 → not (holds_share s area file j) ≡ false) (λ j q n. ap not (fact-holds j (q n))) boards p.4)))

  pub tells-few : (boards : List ℕ) → different boards ≡ true → (v : ℕ) → OddTold s area file boards v → length (odd s area file boards) ≤ 1
  tells-few boards d v (inl p) =
      omega (
        arith,
        ap length (those-none (λ j. not (holds_share s area file j)) boards
            (all-imp _ (λ i. not (holds_share s area file i) ≡ false) (λ i q. ap not (fact-holds i q)) boards p.1)),
      )
  tells-few boards d v (inr p) =
      omega (
        arith,
        ap length (those-one (λ j. not (holds_share s area file j)) boards p.0 d p.2
            (ap not (is_false (holds_share s area file p.0) (λ e. p.3 (holds-fact p.0 e))))
            (all-imp _ (λ j. j ≢ p.0 → not (holds_share s area file j) ≡ false) (λ j q n. ap not (fact-holds j (q n))) boards p.4)),
      )

  -- all boards but a
  pub tells-but : (boards : List ℕ) (v : ℕ) → OddTold s area file boards v → (a : ℕ) × All (λ j. j ≢ a → Holds s area file j) boards
  tells-but boards v (inl p) = (0, all-imp _ _ (λ j q n. q) boards p.1)
  tells-but boards v (inr p) = (p.0, p.4)

  -- at least k + 1 of k + 2, and at most one odd
  pub few-odd : (k : ℕ) (boards : List ℕ) → length boards ≡ k + 2 → k + 1 ≤ length (agreeing s area file boards) → length (odd s area file boards) ≤ 1
  few-odd k boards c h = omega (arith, those-count (holds_share s area file) boards)

  pub many-agree : (k : ℕ) (boards : List ℕ) → length boards ≡ k + 2 → length (odd s area file boards) ≤ 1 → k + 1 ≤ length (agreeing s area file boards)
  many-agree k boards c h = omega (arith, those-count (holds_share s area file) boards)

-- ---- boards of which one is left out, and then another

module _ (s : Record) (boards : List ℕ) (named : Named s.sizes (s.sizes.k + 2) boards) where
  pub first-named : (t : ℕ) → t < length boards → Named s.sizes s.sizes.k (take s.sizes.k (leaving t boards))
  first-named t h =
      let l : List ℕ = leaving t boards in
      let n = leaving-length t boards h in
      let c = named.0 in (
        length-take-le s.sizes.k l (omega arith),
        all-below s.sizes.n (take s.sizes.k l)
            (take-alls (λ x. x < s.sizes.n) s.sizes.k l (leaving-all (λ x. x < s.sizes.n) t boards (below_all s.sizes.n boards named.1))),
        distinct-different (take s.sizes.k l) (distinct-left (take s.sizes.k l) (drop s.sizes.k l)
            (distinct (take s.sizes.k l ++ drop s.sizes.k l) (ap different (take-append-drop s.sizes.k l) ∙ leaving-different t boards named.2))),
      )

-- ---- k boards hold the shares of one file at most

module _ (s : Record) (area : List ℕ) (g : Sound s) (area-is : length area ≡ area_len s) where
  pub one-file : (boards : List ℕ) → Named s.sizes s.sizes.k boards → (file file' : List ℕ) → length file ≡ s.length → length file' ≡ s.length
      → Bytes file → Bytes file' → All (Holds s area file) boards → All (Holds s area file') boards → file ≡ file'
  one-file boards named file file' l l' b b' a a' =
      (code s area g area-is).shares-fix file file' boards b b' named (l ∙ sym l')
      (each-shares s area g area-is boards named.1 file l a ∙ sym (each-shares s area g area-is boards named.1 file' l' a'))

  -- so that of k + 1 one wrong board always shows: without it, they are k
  pub one-shows : (boards : List ℕ) → Named s.sizes (s.sizes.k + 1) boards → (file : List ℕ) → length file ≡ s.length → Bytes file
      → (i : ℕ) → among boards i ≡ true → (Holds s area file i → ⊥) → All (λ j. j ≢ i → Holds s area file j) boards
      → (file' : List ℕ) → length file' ≡ s.length → Bytes file' → All (Holds s area file') boards → ⊥
  one-shows boards named file l b i e n a file' l' b' a' =
      let c = named.0 in
      let x = leave-odd (Holds s area file) i boards named.2 a (omega (arith, c)) in
      let rest : List ℕ = leaving x.0 boards in
      let m = leaving-length x.0 boards x.1 in
      let low : below s.sizes.n rest ≡ true = all-below s.sizes.n rest (leaving-all (λ z. z < s.sizes.n) x.0 boards (below_all s.sizes.n boards named.1)) in
      let same : file ≡ file' = one-file rest (omega (arith, c, m, x.1), low, leaving-different x.0 boards named.2) file file' l l' b b' x.2
      (leaving-all (Holds s area file') x.0 boards a') in
      n (subst (λ (f : List ℕ). Holds s area f i) (sym same) (all_among (Holds s area file') boards i a' e))

-- ---- the careful read

module _ (s : Record) (area : List ℕ) (g : Sound s) (area-is : length area ≡ area_len s)
    (boards : List ℕ) (named : Named s.sizes (s.sizes.k + 2) boards) where
  some-board : 0 < length boards
  some-board = omega (arith, named.0)

  -- "two files never both qualify": they share k boards
  pub two-never : (file file' : List ℕ) → length file ≡ s.length → length file' ≡ s.length → Bytes file → Bytes file'
      → s.sizes.k + 1 ≤ length (agreeing s area file boards) → s.sizes.k + 1 ≤ length (agreeing s area file' boards) → file ≡ file'
  two-never file file' l l' b b' q q' =
      let p = tells-but s area file boards _ (report-tells s area file boards (few-odd s area file s.sizes.k boards named.0 q)) in
      let p' = tells-but s area file' boards _ (report-tells s area file' boards (few-odd s area file' s.sizes.k boards named.0 q')) in
      let x = leave-odd (Holds s area file) p.0 boards named.2 p.1 some-board in
      let rest : List ℕ = leaving x.0 boards in
      let n = leaving-length x.0 boards x.1 in
      let c = named.0 in
      let d : different rest ≡ true = leaving-different x.0 boards named.2 in
      let y = leave-odd (Holds s area file') p'.0 rest d (leaving-all (λ j. j ≢ p'.0 → Holds s area file' j) x.0 boards p'.1) (omega arith) in
      let both : List ℕ = leaving y.0 rest in
      let n2 = leaving-length y.0 rest y.1 in
      let low : below s.sizes.n both ≡ true = all-below s.sizes.n both
      (leaving-all (λ z. z < s.sizes.n) y.0 rest (leaving-all (λ z. z < s.sizes.n) x.0 boards (below_all s.sizes.n boards named.1))) in
      one-file s area g area-is both (omega arith, low, leaving-different y.0 rest d) file file' l l' b b'
      (leaving-all (Holds s area file) y.0 rest x.2) y.2

  module _ (ba : Bytes area) where
    abbrev tried : ℕ → Option (List ℕ)
    tried t = qualifying s area boards (file_held s area (take s.sizes.k (leaving t boards)))

    qualified : (o : Option (List ℕ)) (file : List ℕ) → qualifying s area boards o ≡ some file
        → (o ≡ some file) × (s.sizes.k + 1 ≤ length (agreeing s area file boards))
    qualified none file e = absurd (true-false (ap given e) refl)
    qualified (some f) file e = go (leb (s.sizes.k + 1) (length (agreeing s area f boards))) refl e
      where
        go : (t : Bool) → leb (s.sizes.k + 1) (length (agreeing s area f boards)) ≡ t → ◌≡◌ {A = Option (List ℕ)} (pick t (some f) none) (some file)
            → (◌≡◌ {A = Option (List ℕ)} (some f) (some file)) × (s.sizes.k + 1 ≤ length (agreeing s area file boards))
        go true q k =
            let x : f ≡ file = cc in
            (k, subst (λ (h : List ℕ). s.sizes.k + 1 ≤ length (agreeing s area h boards)) x (leb-true _ _ q))
        go false q k = absurd (true-false (ap given k) refl)

    -- what is found has length L, is of bytes, and qualifies
    abbrev Found : List ℕ → Type 0
    Found file = (length file ≡ s.length) × Bytes file × (s.sizes.k + 1 ≤ length (agreeing s area file boards))

    tried-found : (t : ℕ) → t < length boards → (file : List ℕ) → tried t ≡ some file → Found file
    tried-found t h file e =
        let q = qualified (file_held s area (take s.sizes.k (leaving t boards))) file e in
        let p = file-has s area g area-is ba (take s.sizes.k (leaving t boards)) (first-named s boards named t h) file q.0 in
        (p.0, p.1, q.1)

    pub careful-found : (file : List ℕ) → careful_file s area boards ≡ some file → Found file
    unfolding careful_file
    careful-found file e =
        first_holds Found (tabulate (length boards) tried) (tabulate-all (λ o. (f : List ℕ) → o ≡ some f → Found f) (length boards) tried tried-found) file e

    -- and a file that qualifies is found
    pub careful-finds : (file : List ℕ) → length file ≡ s.length → Bytes file → s.sizes.k + 1 ≤ length (agreeing s area file boards)
        → careful_file s area boards ≡ some file
    unfolding careful_file
    careful-finds file l bf q =
        let p = tells-but s area file boards _ (report-tells s area file boards (few-odd s area file s.sizes.k boards named.0 q)) in
        let x = leave-odd (Holds s area file) p.0 boards named.2 p.1 some-board in
        let is : file_held s area (take s.sizes.k (leaving x.0 boards)) ≡ some file =
        file-is s area g area-is ba (take s.sizes.k (leaving x.0 boards)) (first-named s boards named x.0 x.1) file l bf
        (take-alls (Holds s area file) s.sizes.k (leaving x.0 boards) x.2) in
        let at : tried x.0 ≡ some file =
        ap (qualifying s area boards) is ∙ ap (λ (b : Bool). taken b) (le-leb _ _ q) in
        first-only file (tabulate (length boards) tried)
        (tabulate-all (λ o. (f : List ℕ) → o ≡ some f → f ≡ file) (length boards) tried
        (λ t h f e. let r = tried-found t h f e in two-never f file r.0 l r.1 bf r.2 q))
        x.0 (omega (arith, length-tabulate (length boards) tried, x.1))
        (tabulate-at (length boards) tried none x.0 x.1 ∙ at)
      where
        taken : Bool → Option (List ℕ)
        taken b = pick b (some file) none

    pub careful-none : ((file : List ℕ) → length file ≡ s.length → Bytes file → s.sizes.k + 1 ≤ length (agreeing s area file boards) → ⊥) → careful_file s area boards ≡ none
    unfolding careful_file
    careful-none h =
        first-none (tabulate (length boards) tried) (λ file e.
        let r = first_holds Found (tabulate (length boards) tried) (tabulate-all (λ o. (f : List ℕ) → o ≡ some f → Found f) (length boards) tried tried-found) file e in
        h file r.0 r.1 r.2)

-- ---- by other tries, for code

-- Any lists of k of the boards will do, in any order, where one of them leaves out whichever board is odd: the file found is the same.
module _ (s : Record) (area : List ℕ) (g : Sound s) (area-is : length area ≡ area_len s)
    (boards : List ℕ) (named : Named s.sizes (s.sizes.k + 2) boards) (ba : Bytes area)
    (tries : List (List ℕ)) (each : All (Named s.sizes s.sizes.k) tries)
    (cover : (t : ℕ) → t < length boards → (p : ℕ) × (p < length tries) × All (λ j. among (leaving t boards) j ≡ true) (get_or tries p [])) where
  abbrev attempt : List ℕ → Option (List ℕ)
  attempt l = qualifying s area boards (file_held s area l)

  attempts-found : (ls : List (List ℕ)) → All (Named s.sizes s.sizes.k) ls
      → All (λ o. (f : List ℕ) → o ≡ some f → Found s area g area-is boards named ba f) (map attempt ls)
  attempts-found [] h = tt
  attempts-found (l ∷ ls) h = (
    (λ f e.
        let q = qualified s area g area-is boards named ba (file_held s area l) f e in
        let p = file-has s area g area-is ba l h.0 f q.0 in
        (p.0, p.1, q.1)),
    attempts-found ls h.1,
  )

  pub tries-enough : careful_file s area boards ≡ first_file (map attempt tries)
  tries-enough = go (careful_file s area boards) refl
    where
      taken : (f : List ℕ) → Bool → Option (List ℕ)
      taken f c = pick c (some f) none

      only : (f : List ℕ) → Found s area g area-is boards named ba f → (os : List (Option (List ℕ)))
          → All (λ o. (h : List ℕ) → o ≡ some h → Found s area g area-is boards named ba h) os → All (λ o. (h : List ℕ) → o ≡ some h → h ≡ f) os
      only f v os a =
          all-imp _ _ (λ o k h e. let r = k h e in two-never s area g area-is boards named h f r.0 v.0 r.1 v.1 r.2 v.2) os a

      go : (o : Option (List ℕ)) → careful_file s area boards ≡ o → careful_file s area boards ≡ first_file (map attempt tries)
      go (some f) e =
          let v = careful-found s area g area-is boards named ba f e in
          let p = tells-but s area f boards _ (report-tells s area f boards (few-odd s area f s.sizes.k boards named.0 v.2)) in
          let x = leave-odd (Holds s area f) p.0 boards named.2 p.1 (omega (arith, named.0)) in
          let c = cover x.0 x.1 in
          let hold : All (Holds s area f) (get_or tries c.0 []) =
          all-imp (λ j. among (leaving x.0 boards) j ≡ true) (Holds s area f) (λ j m. all_among (Holds s area f) (leaving x.0 boards) j x.2 m) (get_or tries c.0 []) c.2 in
          let is : file_held s area (get_or tries c.0 []) ≡ some f =
          file-is s area g area-is ba (get_or tries c.0 []) (all-at (Named s.sizes s.sizes.k) [] tries each c.0 c.1) f v.0 v.1 hold in
          let at : attempt (get_or tries c.0 []) ≡ some f = ap (qualifying s area boards) is ∙ ap (taken f) (le-leb _ _ v.2) in
          e ∙ sym (first-only f (map attempt tries) (only f v (map attempt tries) (attempts-found tries each))
          c.0 (omega (arith, length-map tries attempt, c.1)) (map-getD attempt tries c.0 c.1 ∙ at))
        where
          map-getD : (h : List ℕ → Option (List ℕ)) (l : List (List ℕ)) (i : ℕ) → i < length l → get_or (map h l) i none ≡ h (get_or l i [])
          map-getD h [] i q = absurd (omega arith)
          map-getD h (y ∷ l) zero q = refl
          map-getD h (y ∷ l) (suc i) q = map-getD h l i (omega arith)
      go none e =
          e ∙ sym (first-none (map attempt tries) (λ f k.
          let v = first_holds (Found s area g area-is boards named ba) (map attempt tries) (attempts-found tries each) f k in
          true-false (ap given (sym e ∙ careful-finds s area g area-is boards named ba f v.0 v.1 v.2)) refl))

-- ---- a board's share, stripe by stripe, for code

same_parts : (a b c d : List ℕ) → length a ≡ length c → same (a ++ b) (c ++ d) ≡ alls (same a c ∷ same b d ∷ [])
same_parts [] b [] d e = go (same b d)
  where
    go : (t : Bool) → t ≡ alls (true ∷ t ∷ [])
    go true = refl
    go false = refl
same_parts [] b (y ∷ c) d e = absurd (omega arith)
same_parts (x ∷ a) b [] d e = absurd (omega arith)
same_parts (x ∷ a) b (y ∷ c) d e = go (eqb x y) (same_parts a b c d (omega arith))
  where
    go : (t : Bool) → same (a ++ b) (c ++ d) ≡ alls (same a c ∷ same b d ∷ [])
        → pick t (same (a ++ b) (c ++ d)) false ≡ alls (pick t (same a c) false ∷ same b d ∷ [])
    go true k = k
    go false k = refl

same-join : (n w : ℕ) (f : ℕ → List ℕ) (l : List ℕ) → ((s : ℕ) → length (f s) ≡ w) → length l ≡ n * w
    → same l (join n f) ≡ alls (tabulate n (λ s. same (piece w s l) (f s)))
same-join zero w f [] h e = refl
same-join zero w f (x ∷ l) h e = absurd (omega (arith, zero-mul w))
same-join (suc n) w f l h e =
    let k : length l ≡ w + n * w = e ∙ suc-mul n w ∙ add_comm (n * w) w in
    let lw : length (take w l) ≡ w = length-take-le w l (omega arith) in
    ap (λ (x : List ℕ). same x (f 0 ++ join n (λ s. f (suc s)))) (sym (take-append-drop w l))
    ∙ same_parts (take w l) (drop w l) (f 0) (join n (λ s. f (suc s))) (lw ∙ sym (h 0))
    ∙ ap (λ (t : Bool). alls (same (take w l) (f 0) ∷ t ∷ []))
    (same-join n w (λ s. f (suc s)) (drop w l) (λ s. h (suc s)) (length-drop w l ∙ omega arith))
    ∙ last-alls (same (take w l) (f 0)) (tabulate n (λ s. same (piece w s (drop w l)) (f (suc s))))
    ∙ ap₂ (λ (a : List ℕ) (ts : List Bool). alls (same a (f 0) ∷ ts)) (sym (piece-zero w l))
    (tabulate-ext n (λ s. same (piece w s (drop w l)) (f (suc s))) (λ s. same (piece w (suc s) l) (f (suc s))) (λ s q. ap (λ (a : List ℕ). same a (f (suc s))) (sym (piece-suc w s l))))
  where
    last-alls : (t : Bool) (ts : List Bool) → alls (t ∷ alls ts ∷ []) ≡ alls (t ∷ ts)
    last-alls true ts = go (alls ts)
      where
        go : (u : Bool) → pick u true false ≡ u
        go true = refl
        go false = refl
    last-alls false ts = refl

pub holds-by-stripes : (s : Record) (area : List ℕ) → Sound s → length area ≡ area_len s → (file : List ℕ) → length file ≡ s.length → (i : ℕ) → i < s.sizes.n
    → holds_share s area file i
    ≡ alls (tabulate (stripe_count s) (λ t. same (piece (α s.sizes) t (held s area i)) (kept s.sizes s.points (stripe s.sizes file t) i)))
unfolding share
holds-by-stripes s area g area-is file l i h =
    ap (λ (m : ℕ). same (held s area i) (join (stripes s.sizes m) (λ t. kept s.sizes s.points (stripe s.sizes file t) i))) l
    ∙ same-join (stripe_count s) (α s.sizes) (λ t. kept s.sizes s.points (stripe s.sizes file t) i) (held s area i)
    (λ t. length-kept s.sizes s.points (legal-facts s.sizes g.is-legal) (stripe s.sizes file t) i) (held-long s area g area-is i h)
