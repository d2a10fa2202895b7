-- Bytes of words and of rows: four words in a row are its bytes, and a sum has the sums of the bytes.
-- Assumes nothing.
use mathlib.Core.Path.{◌≡◌, refl, sym, ap, ap₂, ◌∙◌}
use mathlib.Core.List.{List, [], ◌∷◌, ◌++◌, append-nil, append_assoc}
use Prim.Native.Nat.{ℕ, zero, suc, ◌+◌, ◌/◌}
use native.Mathlib.Omega.{arith}
use lib.ListN.{length, take, drop, length-append, drop_of_length-le}
use lib.Seq.{drop-drop, take-add, take_at, drop_at}
use lib.Bits.{bit_xor}
use borrow.Rule.Slice.PartMut.{put_mid}
use Rattle.gf256.specs.Field.{add}
use Rattle.gf256.proofs.Sums.{add-mod, add-div}
use Rattle.polynomial.specs.Polynomial.{plus}
use Rattle.row_sums.specs.declared.Row.{Row}
use Rattle.row_sums.specs.Steps.{bytes_of, row_bytes}

-- the bytes of a sum
pub bytes-plus : (n x y : ℕ) → bytes_of n (bit_xor x y) ≡ plus (bytes_of n x) (bytes_of n y)
unfolding add
bytes-plus zero x y = refl
bytes-plus (suc n) x y =
    ap₂ {C = List ℕ} (λ a l. a ∷ l) (add-mod 8 x y) (ap (bytes_of n) (add-div 8 x y) ∙ bytes-plus n (x / 256) (y / 256))

pub length-bytes : (n x : ℕ) → length (bytes_of n x) ≡ n
length-bytes zero x = refl
length-bytes (suc n) x = ap suc (length-bytes n (x / 256))

pub plus-append : (a b c d : List ℕ) → length a ≡ length b → plus (a ++ c) (b ++ d) ≡ plus a b ++ plus c d
plus-append [] [] c d h = refl
plus-append [] (y ∷ b) c d h = absurd (omega arith)
plus-append (x ∷ a) [] c d h = absurd (omega arith)
plus-append (x ∷ a) (y ∷ b) c d h = ap {B = List ℕ} (λ l. add x y ∷ l) (plus-append a b c d (omega arith))

same : (n x y : ℕ) → length (bytes_of n x) ≡ length (bytes_of n y)
same n x y = length-bytes n x ∙ sym (length-bytes n y)

-- the sum of two rows
pub row-plus : (x y : Row) → row_bytes (record { a = bit_xor x.a y.a; b = bit_xor x.b y.b; c = bit_xor x.c y.c; d = bit_xor x.d y.d }) ≡ plus (row_bytes x) (row_bytes y)
unfolding row_bytes
row-plus x y =
    let cx : List ℕ = bytes_of 8 x.c ++ bytes_of 8 x.d in
    let cy : List ℕ = bytes_of 8 y.c ++ bytes_of 8 y.d in
    let bx : List ℕ = bytes_of 8 x.b ++ cx in
    let by : List ℕ = bytes_of 8 y.b ++ cy in
    ap₂ {C = List ℕ} (λ p q. p ++ q) (bytes-plus 8 x.a y.a)
    (ap₂ {C = List ℕ} (λ p q. p ++ q) (bytes-plus 8 x.b y.b)
    (ap₂ {C = List ℕ} (λ p q. p ++ q) (bytes-plus 8 x.c y.c) (bytes-plus 8 x.d y.d)
    ∙ sym (plus-append (bytes_of 8 x.c) (bytes_of 8 y.c) (bytes_of 8 x.d) (bytes_of 8 y.d) (same 8 x.c y.c)))
    ∙ sym (plus-append (bytes_of 8 x.b) (bytes_of 8 y.b) cx cy (same 8 x.b y.b)))
    ∙ sym (plus-append (bytes_of 8 x.a) (bytes_of 8 y.a) bx by (same 8 x.a y.a))

-- two runs of bytes, one after the other
two : (m n : ℕ) (t : List ℕ) (i j : ℕ) → j ≡ i + m → take m (drop i t) ++ take n (drop j t) ≡ take (m + n) (drop i t)
two m n t i j e =
    ap (λ (l : List ℕ). take m (drop i t) ++ take n l) (ap (λ (k : ℕ). drop k t) e ∙ sym (drop-drop m i t)) ∙ sym (take-add m n (drop i t))

-- four runs of eight bytes are one of 32
pub run-four : (t : List ℕ) (i : ℕ)
    → take 8 (drop i t) ++ (take 8 (drop (i + 8) t) ++ (take 8 (drop (i + 16) t) ++ take 8 (drop (i + 24) t))) ≡ take 32 (drop i t)
run-four t i =
    ap (λ (l : List ℕ). take 8 (drop i t) ++ l)
    (ap (λ (l : List ℕ). take 8 (drop (i + 8) t) ++ l) (two 8 8 t (i + 16) (i + 24) (omega arith)) ∙ two 8 16 t (i + 8) (i + 16) (omega arith))
    ∙ two 8 24 t i (i + 8) refl

-- four words that are runs of bytes
pub row-run : (t : List ℕ) (i : ℕ) (x : Row) → bytes_of 8 x.a ≡ take 8 (drop i t) → bytes_of 8 x.b ≡ take 8 (drop (i + 8) t)
    → bytes_of 8 x.c ≡ take 8 (drop (i + 16) t) → bytes_of 8 x.d ≡ take 8 (drop (i + 24) t) → row_bytes x ≡ take 32 (drop i t)
unfolding row_bytes
row-run t i x ea eb ec ed =
    ap₂ {C = List ℕ} (λ p q. p ++ q) ea (ap₂ {C = List ℕ} (λ p q. p ++ q) eb (ap₂ {C = List ℕ} (λ p q. p ++ q) ec ed)) ∙ run-four t i

pub length-row : (x : Row) → length (row_bytes x) ≡ 32
unfolding row_bytes
length-row x = refl

-- ---- lists of one length put side by side

put_next : (p r y l : List ℕ) (a m : ℕ) → length p ≡ a → l ≡ p ++ r → put_mid a m l y ≡ (p ++ y) ++ drop m r
put_next p r y l a m lp e =
    ap (λ (l : List ℕ). put_mid a m l y) e
    ∙ ap₂ {C = List ℕ} (λ (x : List ℕ) (z : List ℕ). x ++ (y ++ drop m z)) (take_at p r a lp) (drop_at p r a lp)
    ∙ sym (append_assoc p y (drop m r))

-- four of them fill a list
pub put_four : (w : ℕ) (l a b e f : List ℕ) → length l ≡ w + w + w + w → length a ≡ w → length b ≡ w → length e ≡ w
    → put_mid (w + w + w) w (put_mid (w + w) w (put_mid w w (a ++ drop w l) b) e) f ≡ a ++ (b ++ (e ++ f))
put_four w l a b e f h la lb le =
    let r : List ℕ = drop w l in
    let lab : length (a ++ b) ≡ w + w = length-append a b ∙ ap₂ ◌+◌ la lb in
    let labe : length ((a ++ b) ++ e) ≡ w + w + w = length-append (a ++ b) e ∙ ap₂ ◌+◌ lab le in
    let none : drop w (drop w (drop w r)) ≡ [] =
    ap (drop w) (drop-drop w w r) ∙ drop-drop w (w + w) r ∙ drop-drop (w + w + w) w l ∙ drop_of_length-le l {i = w + (w + w + w)} (omega arith) in
    put_next ((a ++ b) ++ e) (drop w (drop w r)) f _ (w + w + w) w labe (put_next (a ++ b) (drop w r) e _ (w + w) w lab (put_next a r b _ w w la refl))
    ∙ ap (λ (z : List ℕ). (((a ++ b) ++ e) ++ f) ++ z) none ∙ simp (append_assoc, append-nil)

-- the four words of a row in their places
pub put-words : (l : List ℕ) (x : Row) (wa wb wc wd : List ℕ) → length l ≡ 32 → wa ≡ bytes_of 8 x.a → wb ≡ bytes_of 8 x.b
    → wc ≡ bytes_of 8 x.c → wd ≡ bytes_of 8 x.d
    → put_mid 24 8 (put_mid 16 8 (put_mid 8 8 (wa ++ drop 8 l) wb) wc) wd ≡ row_bytes x
unfolding row_bytes
put-words l x wa wb wc wd h ea eb ec ed =
    rw (ea, eb, ec, ed)
    (put_four 8 l (bytes_of 8 x.a) (bytes_of 8 x.b) (bytes_of 8 x.c) (bytes_of 8 x.d) h
    (length-bytes 8 x.a) (length-bytes 8 x.b) (length-bytes 8 x.c))
