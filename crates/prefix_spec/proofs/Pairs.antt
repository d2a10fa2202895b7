-- Names and lines of pairs: how far an input goes along with them.
-- Assumes nothing.
use mathlib.Core.Path.{◌≡◌, refl, sym, ap, fun_ext, ◌∙◌}
use mathlib.Core.Bool.{Bool, true, false}
use mathlib.Core.Logic.{inl, inr}
use mathlib.Core.List.{List, [], ◌∷◌, ◌++◌, append_assoc}
use Prim.Native.Nat.{ℕ, zero, suc, ◌+◌, ◌*◌, ◌/◌, ◌%◌, ◌<◌}
use native.Mathlib.Nat.{div-add-mod', mod-lt}
use native.Mathlib.Omega.{arith}
use lib.Dec.{ltb, eqb}
use borrow.Author.Tests.{lt-ltb, le-ltb, ltb-true, ltb-false, eqb-true, eqb-false}
use Rattle.lists.specs.Tests.{pick, alls}
use Rattle.lists.proofs.Tests.{true-false, is_false}
use Rattle.number_lines.proofs.Picks.{yes, no, if-eq}
use Rattle.point_lines.specs.Lines.{hexadecimal, digit_value, read_digit, read_name, read_pairs}
use Rattle.point_lines.proofs.Digits.{digit_low}
use Rattle.board_spec.specs.Text.{hex_digit}
use Rattle.text_spec.proofs.Forms.{digit-yes}
use Rattle.prefix_spec.specs.Prefix.{on, name_on, some, low_on, pairs_on}
use Rattle.prefix_spec.proofs.Best.{Best, Some, None, best-some, best-end, best-byte, best-stop, best-same}

-- ---- numbers below m that pass a test

some-found : (m : ℕ) (p : ℕ → Bool) → some m p ≡ true → (i : ℕ) × (i < m) × (p i ≡ true)
some-found zero p e = absurd (true-false e refl)
some-found (suc m) p e = by (p m) refl e (some-found m p)
  where
    by : (t : Bool) → p m ≡ t → pick t true (some m p) ≡ true → (some m p ≡ true → (i : ℕ) × (i < m) × (p i ≡ true)) → (i : ℕ) × (i < suc m) × (p i ≡ true)
    by true q e ih = (m, omega arith, q)
    by false q e ih = let r = ih e in (r.0, omega (arith, r.1), r.2)

found_some : (m : ℕ) (p : ℕ → Bool) (i : ℕ) → i < m → p i ≡ true → some m p ≡ true
found_some zero p i h q = absurd (omega (arith, h))
found_some (suc m) p i h q = by (p m) refl (eqb i m) refl (λ k. found_some m p i k q)
  where
    by : (t : Bool) → p m ≡ t → (u : Bool) → eqb i m ≡ u → (i < m → some m p ≡ true) → some (suc m) p ≡ true
    by true e u f ih = yes (p m) true (some m p) e
    by false e true f ih = absurd (true-false q (ap p (eqb-true i m f) ∙ e))
    by false e false f ih = let k = eqb-false i m f in no (p m) true (some m p) e ∙ ih (omega (arith, h, k))

none_found : (m : ℕ) (p : ℕ → Bool) → some m p ≡ false → (i : ℕ) → i < m → p i ≡ false
none_found m p e i h = is_false (p i) (λ q. true-false (found_some m p i h q) e)

-- ---- digits

-- a digit of each value
spelled : (v : ℕ) → v < 16 → (hexadecimal (hex_digit v) ≡ true) × (digit_value (hex_digit v) ≡ v)
spelled v h = by (ltb v 10) refl
  where
    by : (t : Bool) → ltb v 10 ≡ t → (hexadecimal (hex_digit v) ≡ true) × (digit_value (hex_digit v) ≡ v)
    by true e =
        let l = ltb-true v 10 e in
        rw e (digit-yes (0x30 + v) (inl (omega arith, omega (arith, l))), rw (lt-ltb (0x30 + v) 0x3A (omega (arith, l))) (omega arith))
    by false e =
        let l = ltb-false v 10 e in
        rw e (digit-yes (0x57 + v) (inr (omega (arith, l), omega (arith, h))), rw (le-ltb (0x57 + v) 0x3A (omega (arith, l))) (omega arith))

append-none : (l : List ℕ) → l ++ [] ≡ l
append-none [] = refl
append-none (x ∷ l) = ap {B = List ℕ} (λ m. x ∷ m) (append-none l)

module _ {A : Type 0} (bad : A) (P : A → Bool) (bad-not : P bad ≡ false) where
  -- ---- these bytes

  module _ (go : List ℕ → A) (count : List ℕ → ℕ) (rest : (input : List ℕ) → Best (λ w. P (go w)) input (count input)) where
    pub name-best : (name input : List ℕ) → Best (λ w. P (read_name bad name w go)) input (name_on name input count)
    name-best [] input = rest input
    name-best (c ∷ name) [] =
        let s = best-some _ _ _ (name-best name []) in
        best-end (λ w. P (read_name bad (c ∷ name) w go)) (c ∷ s.0, ap P (if-eq c c (read_name bad name s.0 go) bad refl) ∙ s.1)
    name-best (c ∷ name) (b ∷ input) = by (eqb b c) refl (name-best name input)
      where
        taken : List ℕ → Bool
        taken w = P (read_name bad (c ∷ name) w go)

        by : (t : Bool) → eqb b c ≡ t → Best (λ w. P (read_name bad name w go)) input (name_on name input count)
            → Best taken (b ∷ input) (on t (name_on name input count))
        by true e ih =
            best-byte taken b input _ (best-same (λ w. P (read_name bad name w go)) (λ w. taken (b ∷ w)) input _ (λ w. sym (ap P (yes (eqb b c) _ _ e))) ih)
        by false e ih =
            let s = best-some _ _ _ ih in
            best-stop taken b input (c ∷ s.0, ap P (if-eq c c (read_name bad name s.0 go) bad refl) ∙ s.1) (λ w. ap P (no (eqb b c) _ _ e) ∙ bad-not)

  name-none : (name w : List ℕ) (go : List ℕ → A) → None (λ w. P (go w)) → P (read_name bad name w go) ≡ false
  name-none [] w go n = n w
  name-none (c ∷ name) [] go n = bad-not
  name-none (c ∷ name) (b ∷ w) go n = by (eqb b c) (name-none name w go n)
    where
      by : (t : Bool) → P (read_name bad name w go) ≡ false → P (pick t (read_name bad name w go) bad) ≡ false
      by true h = h
      by false h = bad-not

  -- ---- pairs

  module _ (may : ℕ → List ℕ → Bool) (Inv : ℕ → List ℕ → Type 0) (go : List ℕ → List ℕ → A) (count : List ℕ → ℕ)
      (keeps : (m : ℕ) (xs : List ℕ) (x : ℕ) → Inv (suc m) xs → x < 256 → Inv m (xs ++ (x ∷ [])))
      (more : (m : ℕ) (xs : List ℕ) → Inv (suc m) xs → may (suc m) xs ≡ true → (x : ℕ) × (x < 256) × (may m (xs ++ (x ∷ [])) ≡ true))
      (less : (m : ℕ) (xs : List ℕ) (x : ℕ) → Inv (suc m) xs → x < 256 → may m (xs ++ (x ∷ [])) ≡ true → may (suc m) xs ≡ true)
      (ends : (xs : List ℕ) → Inv 0 xs → may 0 xs ≡ true → (input : List ℕ) → Best (λ w. P (go xs w)) input (count input))
      (never : (xs : List ℕ) → Inv 0 xs → may 0 xs ≡ false → None (λ w. P (go xs w))) where
    -- m pairs more, behind xs
    abbrev read : ℕ → List ℕ → List ℕ → A
    read m xs w = read_pairs bad m w (λ ys rest. go (xs ++ ys) rest)

    abbrev taken : ℕ → List ℕ → List ℕ → Bool
    taken m xs w = P (read m xs w)

    -- behind a first digit
    abbrev low_taken : ℕ → List ℕ → ℕ → List ℕ → Bool
    low_taken m xs high w = P (read_digit bad w (λ low w. read_pairs bad m w (λ ys rest. go (xs ++ ((16 * high + low) ∷ ys)) rest)))

    one_more : (m : ℕ) (xs : List ℕ) (x : ℕ) (w : List ℕ) → read m (xs ++ (x ∷ [])) w ≡ read_pairs bad m w (λ ys rest. go (xs ++ (x ∷ ys)) rest)
    one_more m xs x w =
        ap (λ (g : List ℕ → List ℕ → A). read_pairs bad m w g) (fun_ext (λ ys. fun_ext (λ rest. ap (λ (l : List ℕ). go l rest) (append_assoc xs (x ∷ []) ys))))

    at_low : (m : ℕ) (xs : List ℕ) (high b : ℕ) → hexadecimal b ≡ true → (w : List ℕ)
        → taken m (xs ++ ((16 * high + digit_value b) ∷ [])) w ≡ low_taken m xs high (b ∷ w)
    at_low m xs high b e w = ap P (one_more m xs (16 * high + digit_value b) w ∙ sym (yes (hexadecimal b) _ bad e))

    at_high : (m : ℕ) (xs : List ℕ) (b : ℕ) → hexadecimal b ≡ true → (w : List ℕ) → low_taken m xs (digit_value b) w ≡ taken (suc m) xs (b ∷ w)
    at_high m xs b e w = sym (ap P (yes (hexadecimal b) _ bad e))

    not-high : (m : ℕ) (xs : List ℕ) (b : ℕ) → hexadecimal b ≡ false → (w : List ℕ) → taken (suc m) xs (b ∷ w) ≡ false
    not-high m xs b e w = ap P (no (hexadecimal b) _ bad e) ∙ bad-not

    not_low : (m : ℕ) (xs : List ℕ) (high b : ℕ) → hexadecimal b ≡ false → (w : List ℕ) → low_taken m xs high (b ∷ w) ≡ false
    not_low m xs high b e w = ap P (no (hexadecimal b) _ bad e) ∙ bad-not

    byte : (h l : ℕ) → h < 16 → l < 16 → 16 * h + l < 256
    byte h l p q = omega (arith, p, q)

    -- none where no second digit may stand
    low-none : (m : ℕ) (xs : List ℕ) (high : ℕ) → ((v : ℕ) → v < 16 → (w : List ℕ) → taken m (xs ++ ((16 * high + v) ∷ [])) w ≡ false)
        → (w : List ℕ) → low_taken m xs high w ≡ false
    low-none m xs high n [] = bad-not
    low-none m xs high n (b ∷ w) = by (hexadecimal b) refl
      where
        by : (t : Bool) → hexadecimal b ≡ t → low_taken m xs high (b ∷ w) ≡ false
        by true e = sym (at_low m xs high b e w) ∙ n (digit_value b) (digit_low b e) w
        by false e = not_low m xs high b e w

    pairs-none : (m : ℕ) (xs : List ℕ) → Inv m xs → may m xs ≡ false → (w : List ℕ) → taken m xs w ≡ false
    pairs-none zero xs i e w =
        ap (λ (l : List ℕ). P (read_name bad (0x0A ∷ []) w (go l))) (append-none xs) ∙ name-none (0x0A ∷ []) w (go xs) (never xs i e)
    pairs-none (suc m) xs i e [] = bad-not
    pairs-none (suc m) xs i e (b ∷ w) = by (hexadecimal b) refl (λ x i q w. pairs-none m (xs ++ (x ∷ [])) i q w)
      where
        by : (t : Bool) → hexadecimal b ≡ t → ((x : ℕ) → Inv m (xs ++ (x ∷ [])) → may m (xs ++ (x ∷ [])) ≡ false → (w : List ℕ) → taken m (xs ++ (x ∷ [])) w ≡ false)
            → taken (suc m) xs (b ∷ w) ≡ false
        by true h ih =
            sym (at_high m xs b h w)
            ∙ low-none m xs (digit_value b)
            (λ v l w.
            let x = byte (digit_value b) v (digit_low b h) l in
            ih (16 * digit_value b + v) (keeps m xs _ i x) (is_false _ (λ q. true-false (less m xs _ i x q) e)) w)
            w
        by false h ih = not-high m xs b h w

    low-some : (m : ℕ) (xs : List ℕ) (high v : ℕ) → v < 16 → Some (taken m (xs ++ ((16 * high + v) ∷ []))) → Some (low_taken m xs high)
    low-some m xs high v h s =
        let d = spelled v h in (
          hex_digit v ∷ s.0,
          sym (at_low m xs high (hex_digit v) d.0 s.0) ∙ ap (λ (x : ℕ). taken m (xs ++ ((16 * high + x) ∷ [])) s.0) d.1 ∙ s.1,
        )

    pairs-some : (m : ℕ) (xs : List ℕ) → Inv m xs → may m xs ≡ true → Some (taken m xs)
    pairs-some zero xs i e =
        let s = best-some _ _ _ (ends xs i e []) in
        (0x0A ∷ s.0, ap (λ (l : List ℕ). P (go l s.0)) (append-none xs) ∙ s.1)
    pairs-some (suc m) xs i e =
        let x = more m xs i e in
        let q = div-add-mod' x.0 16 in
        let r : x.0 % 16 < 16 = mod-lt x.0 (omega arith) in
        let h : x.0 / 16 < 16 = omega (arith, q, x.1) in
        let apart : x.0 ≡ 16 * (x.0 / 16) + x.0 % 16 = omega (arith, q) in
        let s = pairs-some m (xs ++ (x.0 ∷ [])) (keeps m xs x.0 i x.1) x.2 in
        let d = spelled (x.0 / 16) h in
        let low = low-some m xs (x.0 / 16) (x.0 % 16) r (s.0, ap (λ (y : ℕ). taken m (xs ++ (y ∷ [])) s.0) (sym apart) ∙ s.1) in (
          hex_digit (x.0 / 16) ∷ low.0,
          sym (at_high m xs (hex_digit (x.0 / 16)) d.0 low.0) ∙ ap (λ (y : ℕ). low_taken m xs y low.0) d.1 ∙ low.1,
        )

    -- the second digit
    module _ (m : ℕ) (xs : List ℕ) (i : Inv (suc m) xs) (high : ℕ) (small : high < 16)
        (ih : (ys input : List ℕ) → Inv m ys → may m ys ≡ true → Best (taken m ys) input (pairs_on may m ys input count)) where
      abbrev fits : ℕ → Bool
      fits low = may m (xs ++ ((16 * high + low) ∷ []))

      kept : (v : ℕ) → v < 16 → Inv m (xs ++ ((16 * high + v) ∷ []))
      kept v h = keeps m xs (16 * high + v) i (byte high v small h)

      found : some 16 fits ≡ true → Some (low_taken m xs high)
      found e = let v = some-found 16 fits e in low-some m xs high v.0 v.1 (pairs-some m _ (kept v.0 v.1) v.2)

      low-best : (input : List ℕ) → some 16 fits ≡ true
          → Best (low_taken m xs high) input (low_on fits input (λ low input. pairs_on may m (xs ++ ((16 * high + low) ∷ [])) input count))
      low-best [] e = best-end (low_taken m xs high) (found e)
      low-best (b ∷ input) e = by (hexadecimal b) refl (fits (digit_value b)) refl
        where
          by : (t : Bool) → hexadecimal b ≡ t → (u : Bool) → fits (digit_value b) ≡ u
              → Best (low_taken m xs high) (b ∷ input) (on (alls (t ∷ u ∷ [])) (pairs_on may m (xs ++ ((16 * high + digit_value b) ∷ [])) input count))
          by true h true f =
              best-byte (low_taken m xs high) b input _
              (best-same (taken m (xs ++ ((16 * high + digit_value b) ∷ []))) (λ w. low_taken m xs high (b ∷ w)) input _ (at_low m xs high b h)
              (ih (xs ++ ((16 * high + digit_value b) ∷ [])) input (kept (digit_value b) (digit_low b h)) f))
          by true h false f =
              best-stop (low_taken m xs high) b input (found e)
              (λ w. sym (at_low m xs high b h w) ∙ pairs-none m _ (kept (digit_value b) (digit_low b h)) f w)
          by false h u f = best-stop (low_taken m xs high) b input (found e) (not_low m xs high b h)

      shut : some 16 fits ≡ false → (w : List ℕ) → low_taken m xs high w ≡ false
      shut e = low-none m xs high (λ v l w. pairs-none m _ (kept v l) (none_found 16 fits e v l) w)

    pub pairs-best : (m : ℕ) (xs input : List ℕ) → Inv m xs → may m xs ≡ true → Best (taken m xs) input (pairs_on may m xs input count)
    pairs-best zero xs input i e =
        best-same (λ w. P (read_name bad (0x0A ∷ []) w (go xs))) (taken zero xs) input _
        (λ w. ap (λ (l : List ℕ). P (read_name bad (0x0A ∷ []) w (go l))) (sym (append-none xs)))
        (name-best (go xs) count (ends xs i e) (0x0A ∷ []) input)
    pairs-best (suc m) xs [] i e = best-end (taken (suc m) xs) (pairs-some (suc m) xs i e)
    pairs-best (suc m) xs (b ∷ input) i e =
        by (hexadecimal b) refl (some 16 (λ low. may m (xs ++ ((16 * digit_value b + low) ∷ [])))) refl (λ ys input i e. pairs-best m ys input i e)
      where
        by : (t : Bool) → hexadecimal b ≡ t → (u : Bool) → some 16 (λ low. may m (xs ++ ((16 * digit_value b + low) ∷ []))) ≡ u
            → ((ys input : List ℕ) → Inv m ys → may m ys ≡ true → Best (taken m ys) input (pairs_on may m ys input count))
            → Best (taken (suc m) xs) (b ∷ input)
            (on (alls (t ∷ u ∷ []))
            (low_on (λ low. may m (xs ++ ((16 * digit_value b + low) ∷ []))) input (λ low input. pairs_on may m (xs ++ ((16 * digit_value b + low) ∷ [])) input count)))
        by true h true f ih =
            best-byte (taken (suc m) xs) b input _
            (best-same (low_taken m xs (digit_value b)) (λ w. taken (suc m) xs (b ∷ w)) input _ (at_high m xs b h)
            (low-best m xs i (digit_value b) (digit_low b h) ih input f))
        by true h false f ih =
            best-stop (taken (suc m) xs) b input (pairs-some (suc m) xs i e)
            (λ w. sym (at_high m xs b h w) ∙ shut m xs i (digit_value b) (digit_low b h) ih f w)
        by false h u f ih = best-stop (taken (suc m) xs) b input (pairs-some (suc m) xs i e) (not-high m xs b h)
