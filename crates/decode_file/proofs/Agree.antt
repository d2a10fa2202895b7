-- Reading a file, stripe by stripe: shares are those of a file where the pairs of boards meet in each stripe and the padding is 00.
-- Assumes nothing.
use mathlib.Core.Path.{◌≡◌, refl, sym, ap, ap₂, ◌∙◌}
use mathlib.Core.Bool.{Bool, true, false}
use mathlib.Core.Option.{Option, none, some}
use mathlib.Core.List.{List, [], ◌∷◌, ◌++◌}
use Prim.Native.Nat.{ℕ, zero, suc, ◌+◌, ◌*◌, ◌-◌, ◌/◌, ◌<◌, ◌≤◌}
use native.Mathlib.Nat.{sub-zero, zero-add, suc-mul}
use native.Mathlib.Decide.{dec_lt}
use native.Mathlib.Omega.{arith}
use lib.Dec.{ltb}
use borrow.Author.Tests.{lt-ltb, le-ltb}
use lib.ListN.{length, get_or, take, drop}
use lib.Seq.{take_all, take-nil}
use Rattle.lists.specs.Tests.{pick, alls, same, given}
use Rattle.lists.specs.Lists.{Bytes, tabulate, join, piece, fit}
use Rattle.lists.proofs.Tests.{same-eq, same_refl}
use Rattle.lists.proofs.Pieces.{tabulate-ext, join-ext, length-join, join-piece, piece-join, length-piece, join-joined}
use Rattle.sizes.specs.declared.Sizes.{Sizes}
use Rattle.sizes.specs.Sizing.{α, B, stripes}
use Rattle.sizes.proofs.Legal.{Legal, row_fits, stripes-enough, stripes-least}
use Rattle.mbcr.specs.Share.{DifferentPoints, stripe, kept, share, shares}
use Rattle.mbcr.specs.Read.{decoded_stripe, decoded_file, read_file}
use Rattle.mbcr.proofs.Points.{Boards}
use Rattle.mbcr.proofs.Repair.{length-kept}
use Rattle.mbcr.proofs.Decode.{length-decoded}
use Rattle.mbcr.proofs.Read.{length-decoded-file}
use Rattle.decode_laws.specs.Steps.{pairs_meet, zeros, stripe_reads, held_at, Placed}
use Rattle.decode_laws.proofs.Agree.{alls-true, true-alls, same_truth, decoded-ext, agrees-ext, stripe-agrees, all-stripes}
use Rattle.decode_laws.proofs.Held.{length-held, held_bytes, placed-before}
use Rattle.decode_stripe.proofs.Made.{part-long}
use Rattle.stripes_cut.specs.Steps.{stripe_at}
use Rattle.decode_file.specs.Steps.{shares_at}
use Rattle.decode_file.proofs.Shares.{shares-long, held-there}

as-piece : (b s : ℕ) (l : List ℕ) → take b (drop (s * b) l) ≡ piece b s l
unfolding piece
as-piece b s l = refl

-- what is left of a list that is cut
drop-cut : (m n : ℕ) (l : List ℕ) → drop m (take n l) ≡ take (n - m) (drop m l)
drop-cut zero n l = ap (λ (k : ℕ). take k l) (sym (sub-zero n))
drop-cut (suc m) zero l = let e : 0 - suc m ≡ 0 = omega arith in ap (λ (k : ℕ). take k (drop (suc m) l)) (sym e)
drop-cut (suc m) (suc n) [] = sym (take-nil (suc n - suc m))
drop-cut (suc m) (suc n) (x ∷ l) = let e : n - m ≡ suc n - suc m = omega arith in drop-cut m n l ∙ ap (λ (k : ℕ). take k (drop m l)) e

fit_cut : (b n : ℕ) (l : List ℕ) → fit b (take n l) ≡ fit b (take n (take b l))
fit_cut zero n l = refl
fit_cut (suc b) zero l = refl
fit_cut (suc b) (suc n) [] = refl
fit_cut (suc b) (suc n) (x ∷ l) = ap {B = List ℕ} (λ l. x ∷ l) (fit_cut b n l)

-- ---- shares, one after another

given-pick : (b : Bool) (l : List ℕ) → given (pick {A = Option (List ℕ)} b (some l) none) ≡ b
given-pick true l = refl
given-pick false l = refl

module _ (z : Sizes) (pts : List ℕ) (legal : Legal z) (boards : List ℕ) (lb : length boards ≡ z.k) (L : ℕ) (held : List ℕ) where
  open z use {k}

  -- stripe s, where there are S
  abbrev D : ℕ → ℕ → List ℕ
  D S s = decoded_stripe z pts boards (λ t. piece (α z) s (piece (S * α z) t held))

  abbrev N : ℕ
  N = stripes z L

  abbrev file : List ℕ
  file = decoded_file z pts L boards held

  abbrev w : ℕ → ℕ → List ℕ
  w s t = piece (α z) s (piece (N * α z) t held)

  as_many : stripes z (length file) ≡ N
  as_many = ap (stripes z) (length-decoded-file z pts legal boards lb L held)

  cut : (s : ℕ) → s < N → stripe z file s ≡ fit (B z) (take (L - s * B z) (D N s))
  unfolding stripe decoded_file
  cut s h =
      ap (fit (B z)) (drop-cut (s * B z) L (join N (D N)))
      ∙ fit_cut (B z) (L - s * B z) (drop (s * B z) (join N (D N)))
      ∙ ap (λ (l : List ℕ). fit (B z) (take (L - s * B z) l)) (first_piece s h)
    where
      first_piece : (s : ℕ) → s < N → take (B z) (drop (s * B z) (join N (D N))) ≡ D N s
      first_piece s h = as-piece (B z) s (join N (D N)) ∙ piece-join N (B z) (D N) (λ i l. length-decoded z pts legal boards lb _) s h

  keeps : ℕ → ℕ → List ℕ
  keeps s t = kept z pts (fit (B z) (take (L - s * B z) (D N s))) (get_or boards t 0)

  by_place : shares z pts file boards ≡ join k (λ t. share z pts file (get_or boards t 0))
  unfolding shares
  by_place = sym (join-joined (share z pts file) boards) ∙ ap (λ (n : ℕ). join n (λ t. share z pts file (get_or boards t 0))) lb

  share-stripes : (t : ℕ) → share z pts file (get_or boards t 0) ≡ join N (λ s. keeps s t)
  unfolding share keeps
  share-stripes t =
      ap (λ (n : ℕ). join n (λ s. kept z pts (stripe z file s) (get_or boards t 0))) as_many
      ∙ join-ext N _ (λ s. keeps s t) (λ s h. ap (λ (u : List ℕ). kept z pts u (get_or boards t 0)) (cut s h))

  length-keeps : (s t : ℕ) → length (keeps s t) ≡ α z
  unfolding keeps
  length-keeps s t = length-kept z pts legal _ (get_or boards t 0)

  all-shares : shares z pts file boards ≡ join k (λ t. join N (λ s. keeps s t))
  all-shares = by_place ∙ join-ext k _ (λ t. join N (λ s. keeps s t)) (λ t h. share-stripes t)

  there : shares z pts file boards ≡ held → (s t : ℕ) → s < N → t < k → keeps s t ≡ w s t
  there e s t hs ht =
      sym (ap (piece (α z) s) (ap (piece (N * α z) t) (sym e ∙ all-shares)
      ∙ piece-join k (N * α z) (λ t. join N (λ s. keeps s t)) (λ t h. length-join N (α z) (λ s. keeps s t) (λ s l. length-keeps s t)) t ht)
      ∙ piece-join N (α z) (λ s. keeps s t) (λ s l. length-keeps s t) s hs)

  back : length held ≡ k * (N * α z) → ((s t : ℕ) → s < N → t < k → keeps s t ≡ w s t) → shares z pts file boards ≡ held
  back lh e =
      all-shares
      ∙ join-ext k _ (λ t. piece (N * α z) t held) (λ t ht.
      join-ext N _ (λ s. w s t) (λ s hs. e s t hs ht) ∙ join-piece N (α z) (piece (N * α z) t held)
      ∙ take_all (N * α z) (piece (N * α z) t held) (omega (arith, length-piece (N * α z) t held (omega (arith, row_fits t k (N * α z) ht)))))
      ∙ join-piece k (N * α z) held ∙ take_all (k * (N * α z)) held (omega arith)

  stripes-agree : length held ≡ k * (N * α z) → same (shares z pts file boards) held ≡ alls (tabulate N (stripe_reads z pts L boards w))
  unfolding stripe_reads keeps
  stripes-agree lh =
      same_truth _ _
      (λ e. true-alls N _ (λ s hs. true-alls k _ (λ t ht. ap (λ (l : List ℕ). same l (w s t)) (there (same-eq _ _ e) s t hs ht) ∙ same_refl (w s t))))
      (λ e. ap (λ (l : List ℕ). same l held) (back lh (λ s t hs ht. same-eq _ _ (alls-true k _ (alls-true N _ e s hs) t ht))) ∙ same_refl held)

  pub agrees-made : length held ≡ k * (N * α z) → alls (tabulate N (stripe_reads z pts L boards w)) ≡ given (read_file z pts L boards held)
  unfolding read_file
  agrees-made lh = sym (given-pick (same (shares z pts file boards) held) file ∙ stripes-agree lh)

-- ---- numbers of stripes

-- the stripes are long enough, and only the last is cut
pub enough-stripes : (z : Sizes) → Legal z → (L S : ℕ) → S ≡ stripes z L → L ≤ S * B z
enough-stripes z legal L S e = rw e (stripes-enough z legal L)

pub few-stripes : (z : Sizes) → Legal z → (L S : ℕ) → S ≡ stripes z L → S * B z ≤ L + B z
few-stripes z legal L zero e = omega arith
few-stripes z legal L (suc s) e =
    let q : suc s * B z ≡ s * B z + B z = suc-mul s (B z) in
    go (dec_lt (s * B z) L)
  where
    go : Dec (s * B z < L) → suc s * B z ≤ L + B z
    go (yes k) = let q : suc s * B z ≡ s * B z + B z = suc-mul s (B z) in omega arith
    go (no k) = absurd (omega (arith, stripes-least z legal L s (omega arith)))

pub placed-all : (z : Sizes) (starts bytes : List ℕ) (S : ℕ) → Placed z starts bytes S → Placed z starts bytes (0 + S)
placed-all z starts bytes S h = rw (zero-add S) h

-- ---- shares at given places

module _ (z : Sizes) (xs : List ℕ) (legal : Legal z) (pts : DifferentPoints z xs) (bs : List ℕ) (boards : Boards z bs) (lb : length bs ≡ z.k)
    (L S : ℕ) (eS : S ≡ stripes z L) (starts bytes : List ℕ) (ls : length starts ≡ z.k) (placed : Placed z starts bytes S) where
  open z use {k}

  abbrev all : List ℕ
  all = shares_at z S starts bytes

  -- what boards[t] holds of stripe s, from either
  abbrev told : ℕ → ℕ → List ℕ
  told s t = piece (α z) s (piece (S * α z) t all)

  abbrev here : ℕ → ℕ → List ℕ
  here s t = held_at z starts bytes s t

  same-held : (s : ℕ) → s < S → (t : ℕ) → t < k → told s t ≡ here s t
  same-held s hs t ht = held-there z S starts bytes placed s t hs (omega arith)

  -- the file
  stripes-are : join S (λ s. stripe_at z xs bs starts bytes (0 + s)) ≡ join (stripes z L) (λ s. decoded_stripe z xs bs (λ t. piece (α z) s (piece (stripes z L * α z) t all)))
  stripes-are =
      join-ext S _ _ (λ s hs. ap (stripe_at z xs bs starts bytes) (zero-add s) ∙ sym (decoded-ext z xs bs (told s) (here s) (same-held s hs)))
      ∙ ap (λ (N : ℕ). join N (λ s. decoded_stripe z xs bs (λ t. piece (α z) s (piece (N * α z) t all)))) eS

  pub file-made : (out₀ y : List ℕ) → L ≤ length out₀ → y ≡ take (length (take (L - 0) (drop 0 out₀))) (join S (λ s. stripe_at z xs bs starts bytes (0 + s)))
      → y ++ drop (L - 0) out₀ ≡ decoded_file z xs L bs all ++ drop L out₀
  unfolding decoded_file
  file-made out₀ y h ey =
      ap₂ {C = List ℕ} (λ (l : List ℕ) (m : ℕ). l ++ drop m out₀) (ey ∙ ap₂ (λ (m : ℕ) (l : List ℕ). take m l) (part-long L out₀ h) stripes-are) (sub-zero L)

  -- whether they agree
  module _ (bb : Bytes bytes) where
    abbrev meet : ℕ → Bool
    meet s = pairs_meet z xs bs (here s)

    abbrev whole : ℕ
    whole = L / B z

    one : (s : ℕ) → s < S → stripe_reads z xs L bs here s ≡ pick (meet s) (zeros (drop (L - s * B z) (decoded_stripe z xs bs (here s)))) false
    unfolding stripe_reads
    one s hs =
        stripe-agrees z xs legal pts bs boards lb (here s) (λ t ht. length-held z legal starts bytes s (placed-before z starts bytes (s + 1) S (omega arith) placed) t (omega arith))
        (λ t ht. held_bytes z starts bytes s t bb) (L - s * B z)

    by-pairs : alls (tabulate S (stripe_reads z xs L bs here)) ≡ pick (alls (tabulate S meet)) (pick (ltb whole S) (zeros (drop (L - whole * B z) (decoded_stripe z xs bs (here whole)))) true) false
    by-pairs = all-stripes z xs legal bs lb here L S eS meet one

    by-shares : given (read_file z xs L bs all) ≡ alls (tabulate S (stripe_reads z xs L bs here))
    unfolding stripe_reads
    by-shares =
        sym (ap (λ (N : ℕ). alls (tabulate N (stripe_reads z xs L bs (λ s t. piece (α z) s (piece (N * α z) t all))))) eS
        ∙ agrees-made z xs legal bs lb L all (shares-long z S starts bytes placed ∙ ap₂ (λ (a b : ℕ). a * (b * α z)) ls eS))
        ∙ ap alls (tabulate-ext S _ _ (λ s hs. agrees-ext z xs bs (told s) (here s) (same-held s hs) (L - s * B z)))

    pub agreed : given (read_file z xs L bs all) ≡ pick (alls (tabulate S meet)) (pick (ltb whole S) (zeros (drop (L - whole * B z) (decoded_stripe z xs bs (here whole)))) true) false
    agreed = by-shares ∙ by-pairs

    -- what is answered, by what was found
    abbrev answer : Bool
    answer = given (read_file z xs L bs all)

    pub no_pairs : alls (tabulate S meet) ≡ false → false ≡ answer
    no_pairs e = sym (agreed ∙ ap (λ (b : Bool). pick b (pick (ltb whole S) (zeros (drop (L - whole * B z) (decoded_stripe z xs bs (here whole)))) true) false) e)

    found : (b : Bool) → alls (tabulate S meet) ≡ true → ltb whole S ≡ b → pick b (zeros (drop (L - whole * B z) (decoded_stripe z xs bs (here whole)))) true ≡ answer
    found b e w =
        sym (agreed ∙ ap (λ (m : Bool). pick m (pick (ltb whole S) (zeros (drop (L - whole * B z) (decoded_stripe z xs bs (here whole)))) true) false) e
        ∙ ap (λ (m : Bool). pick m (zeros (drop (L - whole * B z) (decoded_stripe z xs bs (here whole)))) true) w)

    pub last-cut : alls (tabulate S meet) ≡ true → (b : ℕ) → b ≡ B z → L / b < S → zeros (drop (L - L / b * b) (stripe_at z xs bs starts bytes (L / b))) ≡ answer
    last-cut e b eb h =
        ap (λ (b : ℕ). zeros (drop (L - L / b * b) (stripe_at z xs bs starts bytes (L / b)))) eb
        ∙ found true e (lt-ltb whole S (rw eb at h))

    pub none-cut : alls (tabulate S meet) ≡ true → (b : ℕ) → b ≡ B z → S ≤ L / b → true ≡ answer
    none-cut e b eb h = found false e (le-ltb whole S (rw eb at h))
