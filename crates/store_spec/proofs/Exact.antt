-- A read over any area: the file is given just where the boards hold its shares.
-- Assumes nothing.
use Prim.Native.Nat.{ℕ}
use mathlib.Core.Path.{◌≡◌, refl, sym, ◌∙◌, ap, subst}
use mathlib.Core.Bool.{not}
use mathlib.Core.Logic.{◌↔◌}
use mathlib.Core.List.{List}
use mathlib.Core.Option.{Option, some, none}
use native.Mathlib.Omega.{arith}
use lib.ListN.{length}
use borrow.Author.Tests.{eqb-true}
use Rattle.lists.specs.Lists.{All, over, Bytes}
use Rattle.lists.specs.Tests.{pick, given}
use Rattle.lists.proofs.Tests.{not-no}
use Rattle.sizes.specs.Refusals.{store_order, Check}
use Rattle.std.specs.Prelude.{Ok, Err}
use Rattle.sizes.specs.declared.Refusal.TheVariants.{Size, Area, Count, Node, Repeat, Empty, Down, Disagree}
use Rattle.sizes.proofs.Orders.{Only, only-off, only-first}
use Rattle.mbcr.specs.Demand2.{Named}
use Rattle.mbcr.specs.Share.{share}
use Rattle.board_spec.proofs.Demand1.{written}
use Rattle.board_spec.specs.Calls.{file_of}
use Rattle.store_spec.specs.Calls.{StoreOutcome, accepted, refused, settle, read_lines, file_held, read_call, read_done}
use Rattle.store_spec.specs.Record.{Record, held}
use Rattle.store_spec.proofs.Held.{file-has, file-is, no-file}
use Rattle.store_spec.proofs.Records.{reads-by, Reads, Sound, sound-facts}

-- the outcome of a read that found this file, or none
abbrev outcome : Record → List ℕ → Option (List ℕ) → List ℕ → StoreOutcome
outcome s area (some file) output = accepted 0 s area (over file output)
outcome s area none output = refused s area output Disagree

found : (s : Record) (area output : List ℕ) (o : Option (List ℕ))
    → settle (pick (not (given o)) (Err Disagree) (Ok tt)) (refused s area output) (accepted 0 s area (over (file_of o) output))
    ≡ outcome s area o output
found s area output (some file) = refl
found s area output none = refl

-- no line but DISAGREE holds
module _ (s : Record) (area boards output : List ℕ) (ba : Bytes area)
    (h : Only (read_lines s area boards output) Disagree store_order) where
  facts : Reads s (length area) s.sizes.k boards
  unfolding read_lines
  facts =
      let off = only-off (read_lines s area boards output) Disagree store_order h in
      reads-by s (length area) s.sizes.k boards (not-no _ (off Size refl refl)) (off Area refl refl) (off Empty refl refl) (eqb-true _ _ (not-no _ (off Count refl refl)))
      (off Node refl refl) (off Repeat refl refl) (off Down refl refl)

  call-is : (o : Option (List ℕ)) → file_held s area boards ≡ o → read_call s area boards output ≡ outcome s area o output
  unfolding read_lines read_call
  call-is o e =
      ap (λ (c : Check). settle c (refused s area output) (read_done s area boards output)) (only-first (read_lines s area boards output) Disagree store_order refl h)
      ∙ found s area output (file_held s area boards) ∙ ap (λ (o : Option (List ℕ)). outcome s area o output) e

  g : Sound s
  g = sound-facts s facts.is-sound

  named : Named s.sizes s.sizes.k boards
  named = (facts.count, facts.named-below, facts.all-different)

  gives : (file : List ℕ) → length file ≡ s.length → Bytes file
      → (read_call s area boards output ≡ accepted 0 s area (over file output))
      ↔ All (λ i. held s area i ≡ share s.sizes s.points file i) boards
  gives file l bf = (there (file_held s area boards) refl, back)
    where
      there : (o : Option (List ℕ)) → file_held s area boards ≡ o
          → read_call s area boards output ≡ accepted 0 s area (over file output)
          → All (λ i. held s area i ≡ share s.sizes s.points file i) boards
      there none e q = absurd (omega (arith, ap (λ (o : StoreOutcome). o.answer.refusal) (sym (call-is none e) ∙ q)))
      there (some f) e q =
          let p = file-has s area g facts.area-is ba boards named f e in
          let same : f ≡ file = written f file output (p.0 ∙ sym l) (ap (λ (o : StoreOutcome). o.output) (sym (call-is (some f) e) ∙ q)) in
          subst (λ (x : List ℕ). All (λ i. held s area i ≡ share s.sizes s.points x i) boards) same p.2

      back : All (λ i. held s area i ≡ share s.sizes s.points file i) boards
          → read_call s area boards output ≡ accepted 0 s area (over file output)
      back a = call-is (some file) (file-is s area g facts.area-is ba boards named file l bf a)

  refuses : (read_call s area boards output ≡ refused s area output Disagree)
      ↔ ((file : List ℕ) → length file ≡ s.length → Bytes file → All (λ i. held s area i ≡ share s.sizes s.points file i) boards → ⊥)
  refuses = (
    (λ q file l bf a. (no-file s area g facts.area-is ba boards named).0 (there (file_held s area boards) refl q) file l bf a),
    (λ f. call-is none ((no-file s area g facts.area-is ba boards named).1 f)),
  )
    where
      there : (o : Option (List ℕ)) → file_held s area boards ≡ o
          → read_call s area boards output ≡ refused s area output Disagree → file_held s area boards ≡ none
      there none e q = e
      there (some f) e q = absurd (omega (arith, ap (λ (o : StoreOutcome). o.answer.refusal) (sym (call-is (some f) e) ∙ q)))

  pub read-exact : ((file : List ℕ) → length file ≡ s.length → Bytes file
      → (read_call s area boards output ≡ accepted 0 s area (over file output))
      ↔ All (λ i. held s area i ≡ share s.sizes s.points file i) boards)
      × ((read_call s area boards output ≡ refused s area output Disagree)
      ↔ ((file : List ℕ) → length file ≡ s.length → Bytes file → All (λ i. held s area i ≡ share s.sizes s.points file i) boards → ⊥))
  read-exact = (gives, refuses)
