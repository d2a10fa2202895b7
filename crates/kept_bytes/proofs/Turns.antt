-- The loop around the boards: a turn; and the two parts of what a board keeps.
-- Assumes nothing.
use mathlib.Core.Path.{◌≡◌, ap, ap₂, ◌∙◌}
use mathlib.Core.List.{List, [], ◌++◌, append-nil}
use Prim.Native.Nat.{ℕ, ◌+◌, ◌*◌, ◌-◌, ◌%◌, ◌<◌, ◌≤◌}
use native.Mathlib.Nat.{mod-lt, mod-add-mod, add_assoc}
use native.Mathlib.Omega.{arith}
use lib.ListN.{length, get_or, take, drop, set, length-append, length-drop, drop_of_length-le}
use lib.Seq.{take_at, drop_at, get_or-take, get_or-drop, length-take-le}
use borrow.Rule.Slice.PartMut.{put_mid}
use Rattle.lists.proofs.Pieces.{length-tabulate, tabulate-ext, fill-loop, fill-all}
use Rattle.sizes.specs.declared.Sizes.{Sizes}
use Rattle.kept_bytes.specs.Steps.{around, kept_of}

-- the board after the t-th
pub after : (n i t b r : ℕ) → b ≡ (i + t) % n → r ≡ (b + 1) % n → r ≡ (i + (t + 1)) % n
after n i t b r eb er =
    er ∙ ap (λ (x : ℕ). (x + 1) % n) eb ∙ mod-add-mod (i + t) n 1 ∙ ap (λ (x : ℕ). x % n) (add_assoc i t 1)

pub length-around : (n : ℕ) (f : ℕ → ℕ) (i m : ℕ) → length (around n f i m) ≡ m
length-around n f i m = length-tabulate m (λ t. f ((i + t) % n))

-- only the boards count
pub around-ext : (n : ℕ) (f g : ℕ → ℕ) (i m : ℕ) → 0 < n → ((b : ℕ) → b < n → f b ≡ g b) → around n f i m ≡ around n g i m
around-ext n f g i m h e = tabulate-ext m (λ t. f ((i + t) % n)) (λ t. g ((i + t) % n)) (λ t k. e ((i + t) % n) (mod-lt (i + t) h))

-- a list filled by two parts
two-parts : (m : ℕ) (out ys zs : List ℕ) → length ys ≡ m → put_mid m (length out - m) (ys ++ drop m out) zs ≡ ys ++ zs
two-parts m out ys zs h =
    let rest : List ℕ = drop m out in
    let none : drop (length out - m) (drop m (ys ++ rest)) ≡ [] =
    ap (drop (length out - m)) (drop_at ys rest m h) ∙ drop_of_length-le rest {i = length out - m} (omega (arith, length-drop m out)) in
    ap₂ {C = List ℕ} (λ (x y : List ℕ). x ++ (zs ++ y)) (take_at ys rest m h) none ∙ ap (λ (l : List ℕ). ys ++ l) (append-nil zs)

-- both parts of what a board keeps; g' is g at the boards
pub parts-kept : (z : Sizes) (f g g' : ℕ → ℕ) (i j : ℕ) (out ys zs : List ℕ) → 0 < z.n → ((b : ℕ) → b < z.n → g' b ≡ g b)
    → (let m : ℕ = z.d + z.r in length out ≡ m + (z.d - 1) → j ≡ (i + 1) % z.n
    → ys ≡ around z.n f i (length (take (m - 0) (drop 0 out)))
    → zs ≡ around z.n g' j (length (take (length out - m) (drop m (put_mid 0 (m - 0) out ys))))
    → put_mid m (length out - m) (put_mid 0 (m - 0) out ys) zs ≡ kept_of z f g i)
unfolding kept_of
parts-kept z f g g' i j out ys zs hn eg lo ej ey ez =
    let m : ℕ = z.d + z.r in
    let em : m - 0 ≡ m = omega arith in
    let la : length (take (m - 0) (drop 0 out)) ≡ m = length-take-le (m - 0) out (omega arith) ∙ em in
    let ly : length ys ≡ m = ap length ey ∙ length-around z.n f i (length (take (m - 0) (drop 0 out))) ∙ la in
    let put : put_mid 0 (m - 0) out ys ≡ ys ++ drop m out = ap (λ (v : ℕ). ys ++ drop v out) em in
    let lr : length (take (length out - m) (drop m (put_mid 0 (m - 0) out ys))) ≡ z.d - 1 =
    ap (λ (l : List ℕ). length (take (length out - m) (drop m l))) put
    ∙ ap (λ (l : List ℕ). length (take (length out - m) l)) (drop_at ys (drop m out) m ly)
    ∙ length-take-le (length out - m) (drop m out) (omega (arith, length-drop m out)) ∙ omega arith in
    ap (λ (l : List ℕ). put_mid m (length out - m) l zs) put ∙ two-parts m out ys zs ly
    ∙ ap₂ {C = List ℕ} (λ (x y : List ℕ). x ++ y) (ey ∙ ap (around z.n f i) la) (ez ∙ ap₂ (around z.n g') ej lr ∙ around-ext z.n g' g ((i + 1) % z.n) (z.d - 1) hn eg)

-- row i of rows of 32
pub row_of : (rows : List ℕ) (i b : ℕ) → b < 32 → get_or (take (i * 32 + 32 - i * 32) (drop (i * 32) rows)) b 0 ≡ get_or rows (i * 32 + b) 0
row_of rows i b h = get_or-take (i * 32 + 32 - i * 32) (drop (i * 32) rows) b 0 (omega arith) ∙ get_or-drop (i * 32) rows b 0

pub row-long : (rows : List ℕ) (i : ℕ) → i * 32 + 32 ≤ length rows → length (take (i * 32 + 32 - i * 32) (drop (i * 32) rows)) ≡ 32
row-long rows i h = length-take-le (i * 32 + 32 - i * 32) (drop (i * 32) rows) (omega (arith, length-drop (i * 32) rows)) ∙ omega arith

-- a turn of the loop, and its end
pub around-turn : (n : ℕ) (f : ℕ → ℕ) (i t b v : ℕ) (out₀ out : List ℕ) → t < length out₀ → b ≡ (i + t) % n → v ≡ f b
    → out ≡ around n f i t ++ drop t out₀ → set out t v ≡ around n f i (t + 1) ++ drop (t + 1) out₀
around-turn n f i t b v out₀ out h eb ev e = fill-loop (λ t. f ((i + t) % n)) out₀ out t v h (ev ∙ ap f eb) e

pub around-end : (n : ℕ) (f : ℕ → ℕ) (i t : ℕ) (out₀ out : List ℕ) → t ≡ length out₀ → out ≡ around n f i t ++ drop t out₀ → out ≡ around n f i (length out₀)
around-end n f i t out₀ out e h =
    h ∙ ap (λ (m : ℕ). around n f i m ++ drop m out₀) e ∙ fill-all (λ t. f ((i + t) % n)) out₀ (length out₀) (omega arith)

pub length-kept_of : (z : Sizes) (f g : ℕ → ℕ) (i : ℕ) → length (kept_of z f g i) ≡ z.d + z.r + (z.d - 1)
unfolding kept_of
length-kept_of z f g i =
    length-append (around z.n f i (z.d + z.r)) (around z.n g ((i + 1) % z.n) (z.d - 1))
    ∙ ap₂ ◌+◌ (length-around z.n f i (z.d + z.r)) (length-around z.n g ((i + 1) % z.n) (z.d - 1))
