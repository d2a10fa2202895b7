-- Reading: the shares of any k boards decode to the file, and `read_file` answers a file just where it has these shares.
-- Assumes nothing.
use mathlib.Core.Path.{◌≡◌, refl, sym, ap, ap₂, ◌∙◌}
use mathlib.Core.Logic.{◌↔◌}
use mathlib.Core.Bool.{Bool, true, false}
use mathlib.Core.Option.{Option, none, some}
use mathlib.Core.List.{List}
use Prim.Native.Nat.{ℕ, ◌*◌, ◌<◌}
use native.Mathlib.Omega.{arith}
use lib.ListN.{length, get_or, take}
use lib.Seq.{length-take-le}
use Rattle.lists.specs.Lists.{Bytes, join, piece}
use Rattle.lists.specs.Tests.{same, pick}
use Rattle.lists.proofs.Alls.{take-alls}
use Rattle.lists.proofs.Pieces.{join-ext, length-join, piece-join, join-bytes, piece_bytes, join-fit, take-fit, join-joined}
use Rattle.lists.proofs.Tests.{same-eq, same_refl}
use Rattle.sizes.specs.Sizing.{α, B, stripes}
use Rattle.sizes.specs.declared.Sizes.{Sizes}
use Rattle.sizes.proofs.Legal.{Legal, stripes-enough}
use Rattle.mbcr.specs.Read.{decoded_stripe, decoded_file, read_file}
use Rattle.mbcr.specs.Share.{DifferentPoints, stripe, share, shares}
use Rattle.mbcr.proofs.Decode.{length-decoded, decoded-bytes, decoded-true}
use Rattle.mbcr.proofs.Points.{Boards}
use Rattle.mbcr.proofs.Repair.{length-share, share-piece}
use Rattle.mbcr.proofs.Shape.{length-stripe, stripe-bytes}

-- ---- any bytes

module _ (z : Sizes) (xs : List ℕ) (legal : Legal z) (bs : List ℕ) (lb : length bs ≡ z.k) where
  pub length-decoded-file : (L : ℕ) (bytes : List ℕ) → length (decoded_file z xs L bs bytes) ≡ L
  unfolding decoded_file
  length-decoded-file L bytes =
      length-take-le L _ (rw (length-join (stripes z L) (B z) _ (λ s h. length-decoded z xs legal bs lb _)) (stripes-enough z legal L))

  pub decoded-file-bytes : (L : ℕ) (bytes : List ℕ) → Bytes bytes → Bytes (decoded_file z xs L bs bytes)
  unfolding decoded_file
  decoded-file-bytes L bytes h =
      take-alls (λ a. a < 256) L _ (join-bytes (stripes z L) _ (λ s l. decoded-bytes z xs legal bs lb _ (λ t m. piece_bytes (α z) s _ (piece_bytes (stripes z L * α z) t bytes h))))

-- ---- over the shares of a file

module _ (z : Sizes) (xs : List ℕ) (legal : Legal z) (pts : DifferentPoints z xs) (bs : List ℕ) (boards : Boards z bs) (lb : length bs ≡ z.k) where
  open z use {n, k, d, r}

  pub join-stripes : (file : List ℕ) → take (length file) (join (stripes z (length file)) (λ s. stripe z file s)) ≡ file
  unfolding stripe
  join-stripes file =
      ap (take (length file)) (join-fit (stripes z (length file)) (B z) file)
      ∙ take-fit (stripes z (length file) * B z) file (stripes-enough z legal (length file))

  -- the shares of k boards decode to the file
  shares-by-place : (file : List ℕ) → shares z xs file bs ≡ join (length bs) (λ t. share z xs file (get_or bs t 0))
  unfolding shares
  shares-by-place file = sym (join-joined (share z xs file) bs)

  decoded-by-place : (file : List ℕ) → Bytes file → decoded_file z xs (length file) bs (join (length bs) (λ t. share z xs file (get_or bs t 0))) ≡ file
  unfolding decoded_file
  decoded-by-place file bf =
      ap (take (length file))
      (join-ext (stripes z (length file)) _ (λ s. stripe z file s) (λ s h.
      decoded-true z xs legal pts (stripe z file s) (length-stripe z file s) (stripe-bytes z file s bf) bs boards lb _
      (λ t l.
      ap (piece (α z) s) (piece-join (length bs) (stripes z (length file) * α z) (λ t. share z xs file (get_or bs t 0)) (λ t l. length-share z xs legal file (get_or bs t 0)) t (omega arith))
      ∙ share-piece z xs legal pts file bf (get_or bs t 0) s h)))
      ∙ join-stripes file

  -- stripe by stripe, for code
  pub stripe-decoded : (file : List ℕ) → Bytes file → (s : ℕ) → s < stripes z (length file)
      → decoded_stripe z xs bs (λ t. piece (α z) s (piece (stripes z (length file) * α z) t (shares z xs file bs))) ≡ stripe z file s
  stripe-decoded file bf s h =
      decoded-true z xs legal pts (stripe z file s) (length-stripe z file s) (stripe-bytes z file s bf) bs boards lb _
      (λ t l.
      ap (λ (held : List ℕ). piece (α z) s (piece (stripes z (length file) * α z) t held)) (shares-by-place file)
      ∙ ap (piece (α z) s) (piece-join (length bs) (stripes z (length file) * α z) (λ t. share z xs file (get_or bs t 0)) (λ t l. length-share z xs legal file (get_or bs t 0)) t (omega arith))
      ∙ share-piece z xs legal pts file bf (get_or bs t 0) s h)

  pub decoded-file-true : (file : List ℕ) → Bytes file → decoded_file z xs (length file) bs (shares z xs file bs) ≡ file
  decoded-file-true file bf = ap (decoded_file z xs (length file) bs) (shares-by-place file) ∙ decoded-by-place file bf

  -- two files of one length with the same k shares are the same
  pub shares-injective : (file file' : List ℕ) → Bytes file → Bytes file' → length file ≡ length file' → shares z xs file bs ≡ shares z xs file' bs → file ≡ file'
  shares-injective file file' b b' l e =
      sym (decoded-file-true file b) ∙ ap₂ (λ (m : ℕ) (x : List ℕ). decoded_file z xs m bs x) l e ∙ decoded-file-true file' b'

  -- the file that `read_file` answers has length L, is of bytes, and has these shares ..
  pub read-sound : (L : ℕ) (bytes file : List ℕ) → Bytes bytes → read_file z xs L bs bytes ≡ some file → (length file ≡ L) × Bytes file × (shares z xs file bs ≡ bytes)
  unfolding read_file
  read-sound L bytes file hb e = go (same (shares z xs (decoded_file z xs L bs bytes) bs) bytes) refl e
    where
      go : (b : Bool) → same (shares z xs (decoded_file z xs L bs bytes) bs) bytes ≡ b → ◌≡◌ {A = Option (List ℕ)} (pick b (some (decoded_file z xs L bs bytes)) none) (some file)
          → (length file ≡ L) × Bytes file × (shares z xs file bs ≡ bytes)
      go true h e =
          let q : decoded_file z xs L bs bytes ≡ file = cc in (
            ap length (sym q) ∙ length-decoded-file z xs legal bs lb L bytes,
            rw q at (decoded-file-bytes z xs legal bs lb L bytes hb),
            ap (λ (f : List ℕ). shares z xs f bs) (sym q)
                ∙ same-eq _ _ h,
          )
      go false h e = let z : ◌≡◌ {A = ℕ} 0 1 = cc in absurd (omega arith)

  -- .. and a file of length L that has these shares is answered
  pub read-complete : (L : ℕ) (bytes file : List ℕ) → length file ≡ L → Bytes file → shares z xs file bs ≡ bytes → read_file z xs L bs bytes ≡ some file
  unfolding read_file
  read-complete L bytes file l bf e =
      let q : decoded_file z xs L bs bytes ≡ file = ap₂ (λ (m : ℕ) (x : List ℕ). decoded_file z xs m bs x) (sym l) (sym e) ∙ decoded-file-true file bf in
      ap (λ (f : List ℕ). answer (same (shares z xs f bs) bytes) f) q
      ∙ ap (λ (x : List ℕ). answer (same x bytes) file) e ∙ ap (λ (b : Bool). answer b file) (same_refl bytes)
    where
      answer : Bool → List ℕ → Option (List ℕ)
      answer b f = pick b (some f) none

  -- DISAGREE: "no file of length L, padding included, has these k shares"
  pub read_none : (L : ℕ) (bytes : List ℕ) → Bytes bytes
      → (read_file z xs L bs bytes ≡ none) ↔ ((file : List ℕ) → length file ≡ L → Bytes file → shares z xs file bs ≡ bytes → ⊥)
  read_none L bytes hb = (there, back (read_file z xs L bs bytes) refl)
    where
      there : read_file z xs L bs bytes ≡ none → (file : List ℕ) → length file ≡ L → Bytes file → shares z xs file bs ≡ bytes → ⊥
      there e file l bf q = let z : ◌≡◌ {A = ℕ} 0 1 = cc (read-complete L bytes file l bf q) in omega arith

      back : (o : Option (List ℕ)) → read_file z xs L bs bytes ≡ o → ((file : List ℕ) → length file ≡ L → Bytes file → shares z xs file bs ≡ bytes → ⊥)
          → read_file z xs L bs bytes ≡ none
      back none e h = e
      back (some file) e h = let s = read-sound L bytes file hb e in absurd (h file s.0 s.1 s.2)
