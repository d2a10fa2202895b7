-- A file by its stripes: what each stripe of the shares tells by itself, put together, is what the shares tell. Stripes that pairs of a text spell.
-- Assumes nothing.
use mathlib.Core.Path.{◌≡◌, refl, sym, ap, ap₂, ◌∙◌}
use mathlib.Core.Bool.{Bool, true, false}
use mathlib.Core.List.{List, ◌++◌, append-nil}
use Prim.Native.Nat.{ℕ, ◌+◌, ◌*◌, ◌-◌, ◌<◌, ◌≤◌}
use native.Mathlib.Nat.{sub-zero, zero-mul, one-mul, mul-le-mul}
use native.Mathlib.Decide.{dec_lt}
use native.Mathlib.Omega.{arith}
use lib.ListN.{length, get_or, take, drop, length-drop}
use lib.Seq.{take_all, length-take-le}
use borrow.Rule.Slice.PartMut.{put_mid}
use Rattle.lists.specs.Tests.{pick, alls, given}
use Rattle.lists.specs.Lists.{tabulate, join, piece, over}
use Rattle.lists.proofs.Alls.{all-imp}
use Rattle.lists.proofs.Pieces.{length-tabulate, tabulate-at, tabulate-ext, tabulate-get_d, piece-join, piece-zero, piece-at, length-piece, join-joined, length-joined}
use Rattle.sizes.specs.declared.Sizes.{Sizes}
use Rattle.sizes.specs.Sizing.{α, B, stripes}
use Rattle.sizes.proofs.Legal.{Legal, row_fits, B-pos, α-most, stripes-least}
use Rattle.mbcr.specs.Read.{decoded_stripe, decoded_file, read_file}
use Rattle.mbcr.proofs.Decode.{length-decoded}
use Rattle.decode_laws.specs.Steps.{stripe_agrees, stripe_reads}
use Rattle.decode_laws.proofs.Agree.{decoded-ext, agrees-ext}
use Rattle.decode_laws.proofs.Loops.{back-part}
use Rattle.decode_stripe.proofs.Made.{part-long}
use Rattle.stripes_cut.proofs.Made.{stripes-turn, stripes-end}
use Rattle.decode_file.proofs.Agree.{agrees-made, enough-stripes}
use Rattle.text_in.specs.Steps.{pair_at, bytes_at}
use Rattle.text_stripes.specs.Steps.{spelled, Spelled, part_of, stripe_starts}
use Rattle.text_stripes.proofs.Starts.{one-stripe}

-- ---- lists

piece-tabulate : (w s n : ℕ) (f : ℕ → ℕ) → s * w + w ≤ n → piece w s (tabulate n f) ≡ tabulate w (λ j. f (s * w + j))
piece-tabulate w s n f h =
    sym (tabulate-get_d w (piece w s (tabulate n f)) 0 (length-piece w s (tabulate n f) (rw (length-tabulate n f) h)))
    ∙ tabulate-ext w _ (λ j. f (s * w + j)) (λ j l. piece-at w s (tabulate n f) j 0 l ∙ tabulate-at n f 0 (s * w + j) (omega arith))

alone : (b : Bool) → pick b true false ≡ b
alone true = refl
alone false = refl

-- the lesser of two numbers, either way
either-least : (x b : ℕ) → x - (x - b) ≡ b - (b - x)
either-least x b = omega arith

-- no more than there is
take_part : (b x : ℕ) (l : List ℕ) → length l ≡ b → take (x - (x - b)) l ≡ take x l
take_part b x l h = go (dec_lt x b)
  where
    go : Dec (x < b) → take (x - (x - b)) l ≡ take x l
    go (yes k) = let e : x - (x - b) ≡ x = omega arith in ap (λ (m : ℕ). take m l) e
    go (no k) = take_all (x - (x - b)) l (omega arith) ∙ sym (take_all x l (omega arith))

-- ---- one stripe of k boards, one board's bytes after another

module _ (z : Sizes) (xs : List ℕ) (legal : Legal z) (bs : List ℕ) (lb : length bs ≡ z.k) (m : ℕ) (some : 0 < m) (most : m ≤ B z)
    (buf : List ℕ) (long : length buf ≡ z.k * α z) where
  open z use {k}

  abbrev here : ℕ → List ℕ
  here t = piece (α z) t buf

  one : stripes z m ≡ 1
  one = sym (one-stripe z legal m some most)

  abbrev told : ℕ → ℕ → List ℕ
  told s t = piece (α z) s (piece (stripes z m * α z) t buf)

  same_here : (t : ℕ) → t < k → told 0 t ≡ here t
  same_here t h =
      ap (λ (n : ℕ). piece (α z) 0 (piece n t buf)) (ap (λ (n : ℕ). n * α z) one ∙ one-mul (α z))
      ∙ piece-zero (α z) (here t) ∙ take_all (α z) (here t) (omega (arith, length-piece (α z) t buf (omega (arith, row_fits t k (α z) h))))

  one-file : decoded_file z xs m bs buf ≡ take m (decoded_stripe z xs bs here)
  unfolding decoded_file
  one-file =
      ap (take m) (ap (λ (n : ℕ). join n (λ s. decoded_stripe z xs bs (told s))) one
      ∙ append-nil (decoded_stripe z xs bs (told 0)) ∙ decoded-ext z xs bs (told 0) here same_here)

  one-reads : given (read_file z xs m bs buf) ≡ stripe_agrees z xs bs here (take m (decoded_stripe z xs bs here))
  unfolding stripe_reads
  one-reads =
      let l : length buf ≡ k * (stripes z m * α z) = long ∙ sym (ap (λ (n : ℕ). k * n) (ap (λ (n : ℕ). n * α z) one ∙ one-mul (α z))) in
      let e : m - 0 * B z ≡ m = ap (λ (n : ℕ). m - n) (zero-mul (B z)) ∙ sub-zero m in
      sym (agrees-made z xs legal bs lb m buf l) ∙ ap (λ (n : ℕ). alls (tabulate n (stripe_reads z xs m bs told))) one
      ∙ alone (stripe_reads z xs m bs told 0) ∙ agrees-ext z xs bs (told 0) here same_here (m - 0 * B z)
      ∙ ap (λ (n : ℕ). stripe_agrees z xs bs here (take n (decoded_stripe z xs bs here))) e

-- ---- all stripes

-- a stripe starts in the file
pub starts-inside : (z : Sizes) → Legal z → (L S s b : ℕ) → S ≡ stripes z L → b ≡ B z → s < S → s * b < L
starts-inside z legal L S s b e eb h = rw eb (go (dec_lt (s * B z) L))
  where
    go : Dec (s * B z < L) → s * B z < L
    go (yes k) = k
    go (no k) = absurd (omega (arith, stripes-least z legal L s (omega arith)))

-- and has some of its bytes, no more than B
pub part-some : (z : Sizes) → Legal z → (L S s : ℕ) → S ≡ stripes z L → s < S → 0 < part_of z L s
part-some z legal L S s e h = omega (arith, starts-inside z legal L S s (B z) e refl h, B-pos z legal)

pub part-most : (z : Sizes) (L s : ℕ) → part_of z L s ≤ B z
part-most z L s = omega arith

-- what boards[t] holds of stripe s, where there are S
abbrev pub kept : Sizes → ℕ → List ℕ → ℕ → ℕ → List ℕ
kept z S held s t = piece (α z) s (piece (S * α z) t held)

-- and the stripe that the boards decode to
abbrev pub decoded : Sizes → List ℕ → List ℕ → ℕ → List ℕ → ℕ → List ℕ
decoded z xs bs S held s = decoded_stripe z xs bs (kept z S held s)

module _ (z : Sizes) (xs : List ℕ) (legal : Legal z) (bs : List ℕ) (lb : length bs ≡ z.k) (L S : ℕ) (eS : S ≡ stripes z L)
    (held : List ℕ) (buf : ℕ → List ℕ) (long : length held ≡ z.k * (S * α z)) (longs : (s : ℕ) → length (buf s) ≡ z.k * α z)
    (same : (s t : ℕ) → s < S → t < z.k → piece (α z) t (buf s) ≡ kept z S held s t) where
  open z use {k}

  abbrev W : ℕ → ℕ → List ℕ
  W = kept z S held

  abbrev D : ℕ → List ℕ
  D = decoded z xs bs S held

  D-long : (s : ℕ) → length (D s) ≡ B z
  D-long s = length-decoded z xs legal bs lb (W s)

  -- the part of the file that a stripe decodes to
  pub stripe-part : (s : ℕ) → s < S → decoded_file z xs (part_of z L s) bs (buf s) ≡ take (part_of z L s) (D s)
  stripe-part s h =
      one-file z xs legal bs lb (part_of z L s) (part-some z legal L S s eS h) (part-most z L s) (buf s) (longs s)
      ∙ ap (take (part_of z L s)) (decoded-ext z xs bs _ (W s) (λ t l. same s t h l))

  -- the file
  pub whole-file : take L (join S D) ≡ decoded_file z xs L bs held
  unfolding decoded_file
  whole-file = ap (λ (N : ℕ). take L (join N (λ s. decoded_stripe z xs bs (λ t. piece (α z) s (piece (N * α z) t held))))) eS

  -- whether there is one
  stripe-reads : (s : ℕ) → s < S → given (read_file z xs (part_of z L s) bs (buf s)) ≡ stripe_reads z xs L bs W s
  unfolding stripe_reads
  stripe-reads s h =
      one-reads z xs legal bs lb (part_of z L s) (part-some z legal L S s eS h) (part-most z L s) (buf s) (longs s)
      ∙ agrees-ext z xs bs _ (W s) (λ t l. same s t h l) (part_of z L s)
      ∙ ap (stripe_agrees z xs bs (W s)) (take_part (B z) (L - s * B z) (D s) (D-long s))

  pub reads-by-stripes : alls (tabulate S (λ s. given (read_file z xs (part_of z L s) bs (buf s)))) ≡ given (read_file z xs L bs held)
  reads-by-stripes =
      ap alls (tabulate-ext S _ (stripe_reads z xs L bs W) stripe-reads)
      ∙ ap (λ (N : ℕ). alls (tabulate N (stripe_reads z xs L bs (λ s t. piece (α z) s (piece (N * α z) t held))))) eS
      ∙ agrees-made z xs legal bs lb L held (long ∙ ap (λ (N : ℕ). k * (N * α z)) eS)

-- ---- stripes that pairs of a text spell

module _ (text places : List ℕ) where
  pub spelled-long : (from count : ℕ) → length (spelled text places from count) ≡ length places * count
  unfolding spelled
  spelled-long from count = length-joined count (λ p. bytes_at text (p + from) count) (λ p. length-tabulate count _) places

  -- the bytes of one board
  spelled_at : (from count t : ℕ) → t < length places → piece count t (spelled text places from count) ≡ bytes_at text (get_or places t 0 + from) count
  unfolding spelled
  spelled_at from count t h =
      ap (piece count t) (sym (join-joined (λ p. bytes_at text (p + from) count) places))
      ∙ piece-join (length places) count (λ t. bytes_at text (get_or places t 0 + from) count) (λ i l. length-tabulate count _) t h

  pub spelled-stripe : (w S s t : ℕ) → s < S → t < length places
      → piece w t (spelled text places (2 * (s * w)) w) ≡ piece w s (piece (S * w) t (spelled text places 0 (S * w)))
  spelled-stripe w S s t hs ht =
      spelled_at (2 * (s * w)) w t ht
      ∙ tabulate-ext w _ (λ j. pair_at text (get_or places t 0 + 0 + 2 * (s * w + j))) (λ j h.
      let e : get_or places t 0 + 2 * (s * w) + 2 * j ≡ get_or places t 0 + 0 + 2 * (s * w + j) = omega arith in
      ap (pair_at text) e)
      ∙ sym (ap (piece w s) (spelled_at 0 (S * w) t ht) ∙ piece-tabulate w s (S * w) (λ j. pair_at text (get_or places t 0 + 0 + 2 * j)) (row_fits s S w hs))

  -- the pairs of a stripe stand in the text
  pub spelled-there : (w S s : ℕ) → s < S → Spelled text places 0 (S * w) → Spelled text places (2 * (s * w)) w
  spelled-there w S s h =
      all-imp (λ p. p + 0 + 2 * (S * w) ≤ length text) (λ p. p + 2 * (s * w) + 2 * w ≤ length text) (λ p l. omega (arith, row_fits s S w h)) places

-- ---- a file by the stripes that are spelled

abbrev pub spelled_all : Sizes → List ℕ → List ℕ → ℕ → List ℕ
spelled_all z text places S = spelled text places 0 (S * α z)

abbrev pub spelled_stripe : Sizes → List ℕ → List ℕ → ℕ → List ℕ
spelled_stripe z text places s = spelled text places (2 * (s * α z)) (α z)

-- whether there is a part of a file of L bytes with stripe s
abbrev pub reads : Sizes → List ℕ → ℕ → List ℕ → List ℕ → List ℕ → ℕ → Bool
reads z xs L bs text places s = given (read_file z xs (part_of z L s) bs (spelled_stripe z text places s))

-- ---- a turn of the loops, by the lengths that the code has

module _ (z : Sizes) (legal : Legal z) (L S : ℕ) (eS : S ≡ stripes z L) (s b m : ℕ) (h : s < S) (eb : b ≡ B z) (em : m ≡ (L - s * b) - ((L - s * b) - b)) where
  part-is : m ≡ part_of z L s
  part-is = em ∙ ap (λ (b : ℕ). (L - s * b) - ((L - s * b) - b)) eb

  pub turn-some : 0 < m
  turn-some = rw part-is (part-some z legal L S s eS h)

  pub turn-most : m ≤ B z
  turn-most = rw part-is (part-most z L s)

  pub turn-ends : s * b + m ≤ L
  turn-ends = omega (arith, starts-inside z legal L S s b eS eb h)

  -- the part of the output that is lent
  pub lent-long : (out : List ℕ) → length out ≡ L → length (take (s * b + m - s * b) (drop (s * b) out)) ≡ m
  lent-long out lo =
      let e : s * b + m - s * b ≡ m = omega arith in
      length-take-le _ (drop (s * b) out) (rw length-drop (omega (arith, turn-ends))) ∙ e

pub turn-there : (z : Sizes) (text places : List ℕ) (S s w : ℕ) → s < S → w ≡ α z → Spelled text places 0 (S * α z) → Spelled text places (2 * (s * w)) (α z)
turn-there z text places S s w h ew p = rw ew (spelled-there text places (α z) S s h p)

pub turn-reads : (z : Sizes) (xs : List ℕ) (L : ℕ) (bs text places : List ℕ) (s b w m : ℕ) → b ≡ B z → w ≡ α z → m ≡ (L - s * b) - ((L - s * b) - b)
    → (r : Bool) → r ≡ given (read_file z xs m bs (spelled text places (2 * (s * w)) (α z))) → reads z xs L bs text places s ≡ r
turn-reads z xs L bs text places s b w m eb ew em r e =
    sym (e ∙ ap₂ (λ (m : ℕ) (l : List ℕ). given (read_file z xs m bs l)) (em ∙ ap (λ (b : ℕ). (L - s * b) - ((L - s * b) - b)) eb)
    (ap (λ (w : ℕ). spelled text places (2 * (s * w)) (α z)) ew))

-- ---- all of it

module _ (z : Sizes) (xs : List ℕ) (legal : Legal z) (bs : List ℕ) (lb : length bs ≡ z.k) (text places : List ℕ) (lp : length places ≡ z.k)
    (L S : ℕ) (eS : S ≡ stripes z L) where
  open z use {k}

  abbrev all : List ℕ
  all = spelled_all z text places S

  abbrev stripe : ℕ → List ℕ
  stripe = spelled_stripe z text places

  all-long : length all ≡ k * (S * α z)
  all-long = spelled-long text places 0 (S * α z) ∙ ap (λ (n : ℕ). n * (S * α z)) lp

  stripe-long : (s : ℕ) → length (stripe s) ≡ k * α z
  stripe-long s = spelled-long text places (2 * (s * α z)) (α z) ∙ ap (λ (n : ℕ). n * α z) lp

  same-stripe : (s t : ℕ) → s < S → t < k → piece (α z) t (stripe s) ≡ piece (α z) s (piece (S * α z) t all)
  same-stripe s t hs ht = spelled-stripe text places (α z) S s t hs (omega arith)

  pub reads-told : alls (tabulate S (reads z xs L bs text places)) ≡ given (read_file z xs L bs all)
  reads-told = reads-by-stripes z xs legal bs lb L S eS all stripe all-long stripe-long same-stripe

  abbrev each : ℕ → List ℕ
  each = decoded z xs bs S all

  each_long : (s : ℕ) → length (each s) ≡ B z
  each_long s = length-decoded z xs legal bs lb (kept z S all s)

  -- a turn of the loop that writes
  pub turn-file : (s b w m : ℕ) → s < S → b ≡ B z → w ≡ α z → m ≡ (L - s * b) - ((L - s * b) - b) → (out₀ out y : List ℕ)
      → L ≡ length out₀ → length out ≡ length out₀ → out ≡ over (take L (join s each)) out₀
      → y ≡ decoded_file z xs (length (take (s * b + m - s * b) (drop (s * b) out))) bs (spelled text places (2 * (s * w)) (α z))
      → put_mid (s * b) (s * b + m - s * b) out y ≡ over (take L (join (s + 1) each)) out₀
  turn-file s b w m h eb ew em out₀ out y lo₀ lo eo ey =
      let ll = lent-long z legal L S eS s b m h eb em out (lo ∙ sym lo₀) in
      let e = part-is z legal L S eS s b m h eb em in
      let f : decoded_file z xs m bs (spelled text places (2 * (s * w)) (α z)) ≡ take m (each s) =
      ap₂ (λ (m : ℕ) (l : List ℕ). decoded_file z xs m bs l) e (ap (λ (w : ℕ). spelled text places (2 * (s * w)) (α z)) ew)
      ∙ stripe-part z xs legal bs lb L S eS all stripe all-long stripe-long same-stripe s h ∙ ap (λ (n : ℕ). take n (each s)) (sym e) in
      let i : s * b < L = starts-inside z legal L S s b eS eb h in
      stripes-turn each b L s m (λ i. each_long i ∙ sym eb) out₀ out (each s) y (omega arith) (omega arith) lo (em ∙ either-least (L - s * b) b) eo refl
      (ey ∙ ap (λ (n : ℕ). decoded_file z xs n bs (spelled text places (2 * (s * w)) (α z))) ll ∙ f ∙ ap (λ (n : ℕ). take n (each s)) (sym ll))

  -- at its end
  pub end-file : (s : ℕ) (out₀ out : List ℕ) → L ≡ length out₀ → s ≡ S → out ≡ over (take L (join s each)) out₀ → out ≡ decoded_file z xs L bs all
  end-file s out₀ out lo es eo =
      stripes-end each (B z) s S each_long out₀ out es (omega (arith, enough-stripes z legal L S eS)) (eo ∙ ap (λ (n : ℕ). over (take n (join s each)) out₀) lo)
      ∙ ap (λ (n : ℕ). take n (join S each)) (sym lo)
      ∙ whole-file z xs legal bs lb L S eS all stripe all-long stripe-long same-stripe

-- ---- arrays for work

-- the places, as they are lent
pub lent-starts : (z : Sizes) (w : ℕ) (zs ys : List ℕ) → w ≡ α z → z.k ≤ length zs → ys ≡ tabulate (length (take (z.k - 0) (drop 0 zs))) (λ t. t * w)
    → take (z.k - 0) (drop 0 (put_mid 0 (z.k - 0) zs ys)) ≡ stripe_starts z
lent-starts z w zs ys ew hz ey =
    let e : ys ≡ stripe_starts z = ey ∙ ap₂ (λ (n w : ℕ). tabulate n (λ t. t * w)) (part-long z.k zs hz) ew in
    back-part z.k zs ys (ap length e ∙ length-tabulate z.k _) ∙ e

-- the bytes of a stripe are not many
pub stripe-few : (z : Sizes) → Legal z → (w : ℕ) → w ≡ α z → z.k * w ≤ 1922
stripe-few z legal w e =
    let k : z.k ≤ 31 = omega (arith, legal) in
    let a : w ≤ 62 = omega (arith, α-most z legal) in
    let p : z.k * w ≤ 31 * 62 = mul-le-mul k a in
    omega arith

-- the file, put to the beginning of the output
pub file-put : (z : Sizes) (xs : List ℕ) (L : ℕ) (bs held out y : List ℕ) → L ≤ length out → y ≡ decoded_file z xs (length (take (L - 0) (drop 0 out))) bs held
    → y ++ drop (L - 0) out ≡ decoded_file z xs L bs held ++ drop L out
file-put z xs L bs held out y h e =
    ap₂ {C = List ℕ} (λ (l : List ℕ) (m : ℕ). l ++ drop m out) (e ∙ ap (λ (m : ℕ). decoded_file z xs m bs held) (part-long L out h)) (sub-zero L)
