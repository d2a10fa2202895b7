-- A slice after a byte, case by case; and of 16,384 bytes the first, as many as are counted, are the file's that are kept.
-- Assumes nothing.
use mathlib.Core.Path.{◌≡◌, refl, sym, ap, ap₂, ◌∙◌}
use mathlib.Core.Bool.{Bool, true, false}
use mathlib.Core.List.{List, [], ◌∷◌, ◌++◌}
use Prim.Native.Nat.{ℕ, ◌+◌, ◌≤◌}
use native.Mathlib.Numerals.{add-one}
use native.Mathlib.Omega.{arith}
use lib.Dec.{ltb, eqb}
use lib.ListN.{length, take, set, length-set}
use lib.Seq.{take_all, take-suc-set, set_out}
use borrow.Author.Tests.{ltb-true, ltb-false, eqb-true, eqb-false}
use Rattle.lists.specs.Tests.{pick}
use Rattle.lists.proofs.Tests.{true-false}
use Rattle.number_lines.specs.declared.Read.{Read}
use Rattle.number_lines.specs.declared.Read.TheVariants.{More, Whole, Malformed}
use Rattle.printer.specs.declared.Parser.{Parser}
use Rattle.printer.specs.Printer.{max_file}
use Rattle.printer.specs.Steps.{counted, line_fed, taken, fed, in_file, keep}
use Rattle.print_feed.specs.Steps.{kept_in}
use Rattle.number_lines.proofs.Picks.{yes, no, if-le}
use Rattle.printer.proofs.Fed.{behind-all, in_lines, in-points, fed-bad, fed-file, fed-points, fed-line}

-- ---- the slice after a byte

module _ (p : Parser) (b : ℕ) (file : List ℕ) where
  pub in-bad : p.bad ≡ true → kept_in p b file ≡ file
  in-bad e = yes p.bad _ _ e

  module _ (g : p.bad ≡ false) where
    pub in-line : in_file p ≡ false → kept_in p b file ≡ file
    in-line l = no p.bad _ _ g ∙ no (in_file p) _ _ l

    pub in-file : in_file p ≡ true → kept_in p b file ≡ set file p.count b
    in-file l = no p.bad _ _ g ∙ yes (in_file p) _ _ l

  pub in-length : length (kept_in p b file) ≡ length file
  in-length = go p.bad (in_file p)
    where
      go : (t u : Bool) → length (pick t file (pick u (set file p.count b) file)) ≡ length file
      go true u = refl
      go false true = length-set file p.count b
      go false false = refl

-- ---- the bytes that are kept

-- a byte of a line is not counted
line-count : (p : Parser) (x : Read) → (taken p x).count ≡ p.count
line-count p (More r) = refl
line-count p (Whole v) = refl
line-count p Malformed = refl

-- a byte is of a line of a number, of the line of points, or of the file
unfiled : (p : Parser) (b : ℕ) → p.bad ≡ false → in_file p ≡ false → (fed p b).count ≡ p.count
unfiled p b e f = go (eqb p.left 0) refl (eqb p.points.part 2) refl
  where
    go : (t : Bool) → eqb p.left 0 ≡ t → (u : Bool) → eqb p.points.part 2 ≡ u → (fed p b).count ≡ p.count
    go false l u q = let h = eqb-false p.left 0 l in ap (λ (q : Parser). q.count) (fed-line p b e h) ∙ line-count p (line_fed p.left p.line b)
    go true l false q = ap (λ (q : Parser). q.count) (fed-points p b e (eqb-true p.left 0 l) (eqb-false p.points.part 2 q))
    go true l true q = absurd (true-false (behind-all p (eqb-true p.left 0 l) (eqb-true p.points.part 2 q)) f)

filed : (p : Parser) (b : ℕ) → p.bad ≡ false → in_file p ≡ true → fed p b ≡ counted p
filed p b e f = go (eqb p.left 0) refl (eqb p.points.part 2) refl
  where
    go : (t : Bool) → eqb p.left 0 ≡ t → (u : Bool) → eqb p.points.part 2 ≡ u → fed p b ≡ counted p
    go false l u q = absurd (true-false f (in_lines p (eqb-false p.left 0 l)))
    go true l false q = absurd (true-false f (in-points p (eqb-true p.left 0 l) (eqb-false p.points.part 2 q)))
    go true l true q = fed-file p b e (eqb-true p.left 0 l) (eqb-true p.points.part 2 q)

module _ (p : Parser) (b : ℕ) (file : List ℕ) (n : length file ≡ 16384) where
  -- a byte of the file
  kept_byte : take (counted p).count (set file p.count b) ≡ pick (ltb p.count max_file) (take p.count file ++ (b ∷ [])) (take p.count file)
  kept_byte = go (ltb p.count max_file) refl
    where
      past : (t : Bool) → max_file ≤ p.count → take (pick t p.count (p.count + 1)) file ≡ take p.count file
      past true h = refl
      past false h = take_all (p.count + 1) file (omega arith) ∙ sym (take_all p.count file (omega arith))

      go : (t : Bool) → ltb p.count max_file ≡ t → take (counted p).count (set file p.count b) ≡ pick t (take p.count file ++ (b ∷ [])) (take p.count file)
      go true e =
          let h = ltb-true p.count max_file e in
          ap (λ (m : ℕ). take m (set file p.count b)) (if-le max_file p.count _ _ (omega arith) ∙ add-one p.count)
          ∙ take-suc-set file p.count b (omega arith)
      go false e =
          let h = ltb-false p.count max_file e in
          ap (take (counted p).count) (set_out file p.count b (omega arith)) ∙ past (ltb max_file p.count) h

  pub kept_step : take (fed p b).count (kept_in p b file) ≡ keep p (take p.count file) b
  kept_step = go p.bad refl (in_file p) refl
    where
      go : (t : Bool) → p.bad ≡ t → (u : Bool) → in_file p ≡ u → take (fed p b).count (kept_in p b file) ≡ keep p (take p.count file) b
      go true e u f = ap₂ {C = List ℕ} (λ (q : Parser) l. take q.count l) (fed-bad p b e) (in-bad p b file e) ∙ sym (yes p.bad _ _ e)
      go false e true f =
          ap₂ {C = List ℕ} (λ (q : Parser) l. take q.count l) (filed p b e f) (in-file p b file e f)
          ∙ kept_byte ∙ sym (no p.bad _ _ e ∙ yes (in_file p) _ _ f)
      go false e false f =
          ap₂ {C = List ℕ} (λ m l. take m l) (unfiled p b e f) (in-line p b file e f) ∙ sym (no p.bad _ _ e ∙ no (in_file p) _ _ f)
