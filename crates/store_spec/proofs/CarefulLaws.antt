-- A careful read over any area: the file is given, with the odd board's number or none, just where all the boards but at most one hold its shares.
-- Assumes nothing.
use Prim.Native.Nat.{ℕ, zero, suc, ◌+◌, ◌≤◌, ◌<◌}
use mathlib.Core.Path.{◌≡◌, refl, sym, ◌∙◌, ap, subst}
use mathlib.Core.Bool.{Bool, true, false, not}
use mathlib.Core.Logic.{◌≢◌, ◌↔◌, inl, inr}
use mathlib.Core.List.{List, [], ◌∷◌}
use mathlib.Core.Option.{Option, some, none}
use native.Mathlib.Omega.{arith}
use lib.Dec.{eqb, ltb}
use lib.ListN.{length}
use borrow.Author.Tests.{eqb-true, eq-eqb, leb-true}
use Rattle.lists.specs.Lists.{All, over, Bytes}
use Rattle.lists.specs.Tests.{pick, alls, below, among, different, every, given}
use Rattle.lists.proofs.Boards.{all-below, below_all}
use Rattle.lists.proofs.Tests.{not-no, is_false, alls-hold, true-false}
use Rattle.sizes.specs.Refusals.{◌when◌, first, store_order, Check}
use Rattle.std.specs.Prelude.{Ok, Err}
use Rattle.sizes.specs.declared.Refusal.TheVariants.{Size, Area, Count, Node, Repeat, Short, Empty, Down, Disagree}
use Rattle.sizes.proofs.Orders.{Only, only-off, only-first}
use Rattle.mbcr.specs.Demand2.{Named}
use Rattle.board_spec.proofs.Demand1.{written}
use Rattle.board_spec.specs.Calls.{file_of}
use Rattle.store_spec.specs.Calls.{StoreOutcome, accepted, refused, settle, file_held}
use Rattle.store_spec.specs.Careful.{leaving, agreeing, odd, odd_report, careful_file, careful_lines, careful_done, careful_call}
use Rattle.store_spec.specs.Record.{Record, sound, area_len, in_service}
use Rattle.store_spec.specs.CarefulLaws.{Holds, OddTold, CarefulLaws}
use Rattle.store_spec.proofs.Careful.{agreeing-is, report-tells, tells-report, tells-few, few-odd, many-agree, two-never, one-shows, careful-found, careful-finds, careful-none}
use Rattle.store_spec.proofs.Held.{file-has}
use Rattle.store_spec.proofs.Records.{Reads, reads-by, care_tests, Sound, sound-facts}
use Rattle.store_spec.proofs.Those.{leaving-all, leaving-length, leaving-different}

-- the outcome of a careful read that found this file, or none
abbrev outcome : Record → List ℕ → List ℕ → Option (List ℕ) → List ℕ → StoreOutcome
outcome s area boards (some file) output = accepted (odd_report (odd s area file boards)) s area (over file output)
outcome s area boards none output = refused s area output Disagree

found : (s : Record) (area boards output : List ℕ) (o : Option (List ℕ))
    → settle (pick (not (given o)) (Err Disagree) (Ok tt)) (refused s area output)
    (accepted (odd_report (odd s area (file_of o) boards)) s area (over (file_of o) output))
    ≡ outcome s area boards o output
found s area boards output (some file) = refl
found s area boards output none = refl

-- no line but DISAGREE holds
module _ (s : Record) (area boards output : List ℕ) (ba : Bytes area)
    (h : Only (careful_lines s area boards output) Disagree store_order) where
  facts : Reads s (length area) (s.sizes.k + 2) boards
  unfolding careful_lines
  facts =
      let off = only-off (careful_lines s area boards output) Disagree store_order h in
      reads-by s (length area) (s.sizes.k + 2) boards (not-no _ (off Size refl refl)) (off Area refl refl) (off Empty refl refl)
      (eqb-true _ _ (alls-hold (care_tests s boards) (not-no _ (off Count refl refl))).1.0) (off Node refl refl) (off Repeat refl refl) (off Down refl refl)

  call-is : (o : Option (List ℕ)) → careful_file s area boards ≡ o → careful_call s area boards output ≡ outcome s area boards o output
  unfolding careful_lines careful_call
  call-is o e =
      ap (λ (c : Check). settle c (refused s area output) (careful_done s area boards output))
      (only-first (careful_lines s area boards output) Disagree store_order refl h)
      ∙ found s area boards output (careful_file s area boards) ∙ ap (λ (o : Option (List ℕ)). outcome s area boards o output) e

  g : Sound s
  g = sound-facts s facts.is-sound

  named : Named s.sizes (s.sizes.k + 2) boards
  named = (facts.count, facts.named-below, facts.all-different)

  gives : (file : List ℕ) → length file ≡ s.length → Bytes file → (v : ℕ)
      → (careful_call s area boards output ≡ accepted v s area (over file output)) ↔ OddTold s area file boards v
  gives file l bf v = (there (careful_file s area boards) refl, back)
    where
      there : (o : Option (List ℕ)) → careful_file s area boards ≡ o
          → careful_call s area boards output ≡ accepted v s area (over file output) → OddTold s area file boards v
      there none e q = absurd (omega (arith, ap (λ (o : StoreOutcome). o.answer.refusal) (sym (call-is none e) ∙ q)))
      there (some f) e q =
          let p = careful-found s area g facts.area-is boards named ba f e in
          let k : accepted (odd_report (odd s area f boards)) s area (over f output) ≡ accepted v s area (over file output) = sym (call-is (some f) e) ∙ q in
          let same : f ≡ file = written f file output (p.0 ∙ sym l) (ap (λ (o : StoreOutcome). o.output) k) in
          let r : odd_report (odd s area f boards) ≡ v = ap (λ (o : StoreOutcome). o.answer.reported) k in
          subst (λ (x : List ℕ). OddTold s area x boards v) same
          (subst (λ (x : ℕ). OddTold s area f boards x) r (report-tells s area f boards (few-odd s area f s.sizes.k boards facts.count p.2)))

      back : OddTold s area file boards v → careful_call s area boards output ≡ accepted v s area (over file output)
      back t =
          let q = many-agree s area file s.sizes.k boards facts.count (tells-few s area file boards facts.all-different v t) in
          call-is (some file) (careful-finds s area g facts.area-is boards named ba file l bf q)
          ∙ ap (λ (x : ℕ). accepted x s area (over file output)) (sym (tells-report s area file boards facts.all-different v t))

  refuses : (careful_call s area boards output ≡ refused s area output Disagree)
      ↔ ((file : List ℕ) → length file ≡ s.length → Bytes file → s.sizes.k + 1 ≤ length (agreeing s area file boards) → ⊥)
  refuses = (
    (λ q file l bf a. there (careful_file s area boards) refl q file (careful-finds s area g facts.area-is boards named ba file l bf a)),
    (λ f. call-is none (careful-none s area g facts.area-is boards named ba f)),
  )
    where
      there : (o : Option (List ℕ)) → careful_file s area boards ≡ o
          → careful_call s area boards output ≡ refused s area output Disagree → (file : List ℕ) → careful_file s area boards ≡ some file → ⊥
      there none e q file k = true-false (ap given (sym e ∙ k)) refl
      there (some f) e q file k = absurd (omega (arith, ap (λ (o : StoreOutcome). o.answer.refusal) (sym (call-is (some f) e) ∙ q)))

odd-none : (s : Record) (area file boards : List ℕ) → OddTold s area file boards 0 ↔ All (Holds s area file) boards
odd-none s area file boards = (there, (λ a. inl (refl, a)))
  where
    there : OddTold s area file boards 0 → All (Holds s area file) boards
    there (inl p) = p.1
    there (inr p) = absurd (omega (arith, p.1))

odd-one : (s : Record) (area file boards : List ℕ) (i : ℕ)
    → OddTold s area file boards (suc i) ↔ ((among boards i ≡ true) × (Holds s area file i → ⊥) × All (λ j. j ≢ i → Holds s area file j) boards)
odd-one s area file boards i = (there, (λ a. inr (i, refl, a.0, a.1, a.2)))
  where
    there : OddTold s area file boards (suc i) → (among boards i ≡ true) × (Holds s area file i → ⊥) × All (λ j. j ≢ i → Holds s area file j) boards
    there (inl p) = absurd (omega (arith, p.0))
    there (inr p) =
        let e : p.0 ≡ i = omega (arith, p.1) in
        subst (λ (x : ℕ). (among boards x ≡ true) × (Holds s area file x → ⊥) × All (λ j. j ≢ x → Holds s area file j) boards) e (p.2, p.3, p.4)

both-leave : (P : ℕ → Type 0) (t u : ℕ) (l : List ℕ) → t ≢ u → All P (leaving t l) → All P (leaving u l) → All P l
both-leave P t u [] n a b = tt
both-leave P zero zero (x ∷ l) n a b = absurd (n refl)
both-leave P zero (suc u) (x ∷ l) n a b = (b.0, a)
both-leave P (suc t) zero (x ∷ l) n a b = (a.0, b)
both-leave P (suc t) (suc u) (x ∷ l) n a b = (a.0, both-leave P t u l (λ e. n (ap suc e)) a.1 b.1)

leaves-k : (s : Record) (boards : List ℕ) (t : ℕ) → Named s.sizes (s.sizes.k + 1) boards → t < length boards → Named s.sizes s.sizes.k (leaving t boards)
leaves-k s boards t named h =
    let m = leaving-length t boards h in
    let c = named.0 in (
      omega (arith, c, m, h),
      all-below s.sizes.n (leaving t boards) (leaving-all (λ z. z < s.sizes.n) t boards (below_all s.sizes.n boards named.1)),
      leaving-different t boards named.2,
    )

two-reads : (s : Record) (area boards file : List ℕ) (i : ℕ) → sound s ≡ true → length area ≡ area_len s → Bytes area → Named s.sizes (s.sizes.k + 1) boards
    → length file ≡ s.length → Bytes file
    → among boards i ≡ true → (Holds s area file i → ⊥) → All (λ j. j ≢ i → Holds s area file j) boards
    → (t u : ℕ) → t < length boards → u < length boards → t ≢ u
    → (file' : List ℕ) → file_held s area (leaving t boards) ≡ some file' → file_held s area (leaving u boards) ≡ some file' → ⊥
two-reads s area boards file i ok m ba named l b e n a t u ht hu d file' et eu =
    let g = sound-facts s ok in
    let x = file-has s area g m ba (leaving t boards) (leaves-k s boards t named ht) file' et in
    let y = file-has s area g m ba (leaving u boards) (leaves-k s boards u named hu) file' eu in
    one-shows s area g m boards named file l b i e n a file' x.0 x.1 (both-leave (Holds s area file') t u boards d x.2 y.2)

counts : (a b c d e f g h i : Bool) → a ≡ false → b ≡ false → c ≡ false → d ≡ true
    → first store_order (Size when a ∷ Area when b ∷ Empty when c ∷ Count when d ∷ Node when e ∷ Repeat when f ∷ Down when g ∷ Short when h ∷ Disagree when i ∷ []) ≡ Err Count
counts true b c d e f g h i p q r t = absurd (true-false refl p)
counts false true c d e f g h i p q r t = absurd (true-false refl q)
counts false false true d e f g h i p q r t = absurd (true-false refl r)
counts false false false false e f g h i p q r t = absurd (true-false t refl)
counts false false false true e f g h i p q r t = refl

few-boards : (s : Record) (area boards output : List ℕ) → sound s ≡ true → length area ≡ area_len s → s.written ≡ true
    → s.sizes.n < s.sizes.k + 2 → careful_call s area boards output ≡ refused s area output Count
unfolding careful_lines careful_call
few-boards s area boards output ok m w n =
    ap (λ (c : Check). settle c (refused s area output) (careful_done s area boards output))
    (counts (not (sound s)) (not (eqb (length area) (area_len s))) (not s.written) (not (alls (care_tests s boards))) (not (below s.sizes.n boards))
    (not (different boards)) (not (every (in_service s) boards)) (ltb (length output) s.length) (not (given (careful_file s area boards))) (ap not ok) (ap not (eq-eqb _ _ m)) (ap not w)
    (ap not (is_false (alls (care_tests s boards)) (λ q. absurd (omega (arith, n, leb-true (s.sizes.k + 2) s.sizes.n (alls-hold (care_tests s boards) q).0))))))

pub careful-laws : CarefulLaws
careful-laws = record {
  agreeing-is = λ s area file boards i. agreeing-is s area file boards i;
  at_least = λ s area file boards c d. (
    (λ q. (odd_report (odd s area file boards), report-tells s area file boards (few-odd s area file s.sizes.k boards c q))),
    (λ p. many-agree s area file s.sizes.k boards c (tells-few s area file boards d p.0 p.1)),
  );
  tells-one = λ s area file boards d v v' t t'. tells-report s area file boards d v t ∙ sym (tells-report s area file boards d v' t');
  odd-none = odd-none;
  odd-one = odd-one;
  two-never = λ s area boards file file' ok m named. two-never s area (sound-facts s ok) m boards named file file';
  two-reads = two-reads;
  one-shows = λ s area boards file i ok m named l b e n a file'. one-shows s area (sound-facts s ok) m boards named file l b i e n a file';
  few-boards = few-boards;
  careful-exact = λ s area boards output ba h. (gives s area boards output ba h, refuses s area boards output ba h);
}
