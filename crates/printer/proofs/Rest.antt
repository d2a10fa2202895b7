-- What the definition still says of an input, from where a parser stands in it; one byte at a time it stays the same.
-- Assumes nothing.
use mathlib.Core.Path.{◌≡◌, refl, sym, ap, ap₂, ◌∙◌}
use mathlib.Core.Bool.{Bool, true, false}
use mathlib.Core.List.{List, [], ◌∷◌, ◌++◌, append-nil, append_assoc}
use Prim.Native.Nat.{ℕ, zero, suc, ◌+◌, ◌<◌}
use native.Mathlib.Nat.{zero-add}
use native.Mathlib.Omega.{arith}
use lib.Dec.{ltb, eqb}
use lib.ListN.{length}
use borrow.Author.Tests.{ltb-true, ltb-false, eqb-true, eqb-false}
use Rattle.lists.specs.Tests.{pick}
use Rattle.number_lines.specs.declared.Reader.{Reader}
use Rattle.number_lines.specs.declared.Read.{Read}
use Rattle.number_lines.specs.declared.Read.TheVariants.{More, Whole, Malformed}
use Rattle.number_lines.specs.Steps.{told, reads}
use Rattle.number_lines.proofs.Picks.{yes, no, if-eq, if-ne, if-lt, if-le}
use Rattle.sizes.specs.declared.Sizes.{Sizes}
use Rattle.mbcr.specs.Share.{standard}
use Rattle.point_lines.specs.Steps as points
use Rattle.printer.specs.declared.Parser.{Parser}
use Rattle.printer.specs.Printer.{refused_line, max_file, shared}
use Rattle.printer.specs.Steps.{accepted, name_of, max_number, wrong, stored, counted, line_fed, taken, points_moved, fed, in_file, keep, sizes_read, points_read, refusal_of, decided}
use Rattle.printer.proofs.Fed.{behind-all, in_lines, in-points, fed-bad, fed-file, fed-points, fed-line}

-- the file's bytes: those kept, then the input
unfoldable pub filing : Sizes → List ℕ → ℕ → ℕ → List ℕ → List ℕ → List ℕ
filing z xs node count kept input =
    pick (accepted z xs) (pick (ltb max_file (length input + count)) (refused_line 3) (shared z xs node (kept ++ input))) (refused_line 1)

-- behind the lines of numbers: the line of points from where its reader stands, then the file
abbrev pub behind_lines : Parser → List ℕ → List ℕ → List ℕ
behind_lines p kept input =
    pick (eqb p.points.part 2) (filing (sizes_read p) (points_read p) p.node p.count kept input)
    (points.reads (refused_line 1) p.n p.points input (λ xs rest. filing (sizes_read p) (pick p.asked xs (standard (sizes_read p))) p.node p.count kept rest))

-- that many lines, the first from where its reader stands, then what is behind them
abbrev pub lines : ℕ → Parser → List ℕ → List ℕ → List ℕ
lines zero p kept input = behind_lines p kept input
lines (suc m) p kept input = reads (refused_line 1) (name_of (suc m)) max_number p.line input (λ v rest. lines m (stored (suc m) p v) kept rest)

unfoldable pub rest : Parser → List ℕ → List ℕ → List ℕ
rest p kept input = pick p.bad (refused_line 1) (lines p.left p kept input)

pub rest-bad : (p : Parser) (kept input : List ℕ) → p.bad ≡ true → rest p kept input ≡ refused_line 1
unfolding rest
rest-bad p kept input e = yes p.bad _ _ e

rest_lines : (m : ℕ) (p : Parser) (kept input : List ℕ) → p.bad ≡ false → p.left ≡ m → rest p kept input ≡ lines m p kept input
unfolding rest
rest_lines m p kept input g e = no p.bad _ _ g ∙ ap (λ (x : ℕ). lines x p kept input) e

-- ---- a byte of a line

module _ (m : ℕ) (p : Parser) (kept input : List ℕ) (good : p.bad ≡ false) (here : p.left ≡ suc m) where
  -- the line from a reader on, and what is behind it
  abbrev behind : ℕ → List ℕ → List ℕ
  behind v input = lines m (stored (suc m) p v) kept input

  abbrev from : Reader → List ℕ
  from r = reads (refused_line 1) (name_of (suc m)) max_number r input behind

  to-taken : (x : Read) → told (refused_line 1) from (λ v. behind v input) x ≡ rest (taken p x) kept input
  to-taken (More r) = sym (rest_lines (suc m) (taken p (More r)) kept input good here)
  to-taken (Whole v) =
      ap (λ (x : ℕ). lines m (stored x p v) kept input) (sym here) ∙ sym (rest_lines m (stored p.left p v) kept input good (omega (arith, here)))
  to-taken Malformed = sym (rest-bad (wrong p) kept input refl)

  line_step : (b : ℕ) → rest p kept (b ∷ input) ≡ rest (fed p b) kept input
  line_step b =
      rest_lines (suc m) p kept (b ∷ input) good here
      ∙ ap (λ (x : ℕ). told (refused_line 1) from (λ v. behind v input) (line_fed x p.line b)) (sym here)
      ∙ to-taken (line_fed p.left p.line b)
      ∙ ap (λ (q : Parser). rest q kept input) (sym (fed-line p b good (λ z. omega arith)))

-- ---- a byte of the file

module _ (z : Sizes) (xs : List ℕ) (node : ℕ) where
  -- too long, whatever is kept
  filing-long : (count : ℕ) (kept input : List ℕ) → max_file < length input + count → filing z xs node count kept input ≡ pick (accepted z xs) (refused_line 3) (refused_line 1)
  unfolding filing
  filing-long count kept input h = ap (λ (l : List ℕ). pick (accepted z xs) l (refused_line 1)) (if-lt max_file (length input + count) _ _ h)

  filing-step : (count : ℕ) (kept : List ℕ) (b : ℕ) (input : List ℕ) → filing z xs node count kept (b ∷ input)
      ≡ filing z xs node (pick (ltb max_file count) count (count + 1)) (pick (ltb count max_file) (kept ++ (b ∷ [])) kept) input
  unfolding filing
  filing-step count kept b input = go (ltb count max_file) refl (ltb max_file count) refl
    where
      go : (t : Bool) → ltb count max_file ≡ t → (u : Bool) → ltb max_file count ≡ u → filing z xs node count kept (b ∷ input)
          ≡ filing z xs node (pick (ltb max_file count) count (count + 1)) (pick (ltb count max_file) (kept ++ (b ∷ [])) kept) input
      go true e u f =
          let h = ltb-true count max_file e in
          let a : length (b ∷ input) + count ≡ length input + (count + 1) = omega arith in
          ap₂ {C = List ℕ} (λ (x : ℕ) y. pick (accepted z xs) (pick (ltb max_file x) (refused_line 3) (shared z xs node y)) (refused_line 1)) a
          (sym (append_assoc kept (b ∷ []) input))
          ∙ ap₂ {C = List ℕ} (λ x y. filing z xs node x y input) (sym (if-le max_file count _ _ (omega arith))) (sym (yes (ltb count max_file) _ _ e))
      go false e true f =
          let h = ltb-true max_file count f in
          filing-long count kept (b ∷ input) (omega arith)
          ∙ sym (ap (λ (x : ℕ). filing z xs node x (pick (ltb count max_file) (kept ++ (b ∷ [])) kept) input) (yes (ltb max_file count) _ _ f)
          ∙ filing-long count (pick (ltb count max_file) (kept ++ (b ∷ [])) kept) input (omega arith))
      go false e false f =
          let h = ltb-false count max_file e in
          filing-long count kept (b ∷ input) (omega arith)
          ∙ sym (ap (λ (x : ℕ). filing z xs node x (pick (ltb count max_file) (kept ++ (b ∷ [])) kept) input) (no (ltb max_file count) _ _ f)
          ∙ filing-long (count + 1) (pick (ltb count max_file) (kept ++ (b ∷ [])) kept) input (omega arith))

-- ---- a byte, and the end

-- a byte of the line of points
points-step : (p : Parser) (kept : List ℕ) (b : ℕ) (input : List ℕ) → p.bad ≡ false → p.left ≡ 0 → (p.points.part ≡ 2 → ⊥)
    → rest p kept (b ∷ input) ≡ rest (fed p b) kept input
points-step p kept b input e f g =
    let q = points_moved p (points.fed p.n p.points b) in
    rest_lines 0 p kept (b ∷ input) e f ∙ if-ne p.points.part 2 _ _ g
    ∙ sym (ap (λ (x : Parser). rest x kept input) (fed-points p b e f g) ∙ rest_lines 0 q kept input e f)

-- a byte of the file
file-step : (p : Parser) (kept : List ℕ) (b : ℕ) (input : List ℕ) → p.bad ≡ false → p.left ≡ 0 → p.points.part ≡ 2
    → rest p kept (b ∷ input) ≡ rest (fed p b) (pick (ltb p.count max_file) (kept ++ (b ∷ [])) kept) input
file-step p kept b input e f g =
    rest_lines 0 p kept (b ∷ input) e f ∙ if-eq p.points.part 2 _ _ g
    ∙ filing-step (sizes_read p) (points_read p) p.node p.count kept b input
    ∙ sym (ap (λ (x : Parser). rest x (pick (ltb p.count max_file) (kept ++ (b ∷ [])) kept) input) (fed-file p b e f g)
    ∙ rest_lines 0 (counted p) (pick (ltb p.count max_file) (kept ++ (b ∷ [])) kept) input e f
    ∙ if-eq p.points.part 2 _ _ g)

pub step : (p : Parser) (kept : List ℕ) (b : ℕ) (input : List ℕ) → rest p kept (b ∷ input) ≡ rest (fed p b) (keep p kept b) input
step p kept b input = go p.bad refl p.left refl (eqb p.points.part 2) refl
  where
    unkept : p.bad ≡ false → in_file p ≡ false → keep p kept b ≡ kept
    unkept e f = no p.bad _ _ e ∙ no (in_file p) _ _ f

    go : (t : Bool) → p.bad ≡ t → (m : ℕ) → p.left ≡ m → (u : Bool) → eqb p.points.part 2 ≡ u → rest p kept (b ∷ input) ≡ rest (fed p b) (keep p kept b) input
    go true e m f u g =
        rest-bad p kept (b ∷ input) e
        ∙ sym (ap₂ {C = List ℕ} (λ x y. rest x y input) (fed-bad p b e) (yes p.bad _ _ e) ∙ rest-bad p kept input e)
    go false e zero f true g =
        let h = eqb-true p.points.part 2 g in
        file-step p kept b input e f h ∙ ap (λ (l : List ℕ). rest (fed p b) l input) (sym (no p.bad _ _ e ∙ yes (in_file p) _ _ (behind-all p f h)))
    go false e zero f false g =
        let h = eqb-false p.points.part 2 g in
        points-step p kept b input e f h ∙ ap (λ (l : List ℕ). rest (fed p b) l input) (sym (unkept e (in-points p f h)))
    go false e (suc m) f u g =
        line_step m p kept input e f b
        ∙ ap (λ (l : List ℕ). rest (fed p b) l input) (sym (unkept e (in_lines p (λ z. omega arith))))

-- the refusal of a whole file, or what is told of it
file-said : (t u : Bool) (l : List ℕ)
    → pick t (pick u (refused_line 3) l) (refused_line 1) ≡ pick (eqb (pick t (pick u 3 0) 1) 0) l (refused_line (pick t (pick u 3 0) 1))
file-said true true l = refl
file-said true false l = refl
file-said false u l = refl

pub at-end : (p : Parser) (kept : List ℕ) → rest p kept [] ≡ decided p kept
unfolding decided filing
at-end p kept = go p.bad refl p.left refl (eqb p.points.part 2) refl
  where
    said : (x : ℕ) → refusal_of p ≡ x → decided p kept ≡ pick (eqb x 0) (shared (sizes_read p) (points_read p) p.node kept) (refused_line x)
    said x e = ap (λ (x : ℕ). pick (eqb x 0) (shared (sizes_read p) (points_read p) p.node kept) (refused_line x)) e

    cut : p.bad ≡ false → in_file p ≡ false → refusal_of p ≡ 1
    cut e f = no p.bad _ _ e ∙ no (in_file p) _ _ f

    go : (t : Bool) → p.bad ≡ t → (m : ℕ) → p.left ≡ m → (u : Bool) → eqb p.points.part 2 ≡ u → rest p kept [] ≡ decided p kept
    go true e m f u g = rest-bad p kept [] e ∙ sym (said 1 (yes p.bad _ _ e))
    go false e zero f true g =
        let h = eqb-true p.points.part 2 g in
        rest_lines 0 p kept [] e f ∙ if-eq p.points.part 2 _ _ h
        ∙ ap₂ {C = List ℕ} (λ (x : ℕ) y. pick (accepted (sizes_read p) (points_read p))
        (pick (ltb max_file x) (refused_line 3) (shared (sizes_read p) (points_read p) p.node y)) (refused_line 1))
        (zero-add p.count) (append-nil kept)
        ∙ file-said (accepted (sizes_read p) (points_read p)) (ltb max_file p.count) (shared (sizes_read p) (points_read p) p.node kept)
        ∙ sym (said (pick (accepted (sizes_read p) (points_read p)) (pick (ltb max_file p.count) 3 0) 1) (no p.bad _ _ e ∙ yes (in_file p) _ _ (behind-all p f h)))
    go false e zero f false g =
        let h = eqb-false p.points.part 2 g in
        rest_lines 0 p kept [] e f ∙ if-ne p.points.part 2 _ _ h ∙ sym (said 1 (cut e (in-points p f h)))
    go false e (suc m) f u g = rest_lines (suc m) p kept [] e f ∙ sym (said 1 (cut e (in_lines p (λ z. omega arith))))
