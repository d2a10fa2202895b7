-- That by its stripes a board is asked whether it holds its share of the file that k boards hold.
-- Assumes nothing.
use mathlib.Core.Path.{◌≡◌, refl, sym, ap, ap₂, ◌∙◌}
use mathlib.Core.Bool.{Bool, true}
use mathlib.Core.List.{List, map}
use mathlib.Core.Option.{Option, some, none}
use Prim.Native.Nat.{ℕ, ◌+◌, ◌*◌, ◌<◌, ◌≤◌}
use native.Mathlib.Nat.{mul-le-mul_right}
use native.Mathlib.Omega.{arith}
use lib.ListN.{length, take, drop}
use lib.Seq.{drop-drop}
use Rattle.lists.specs.Tests.{alls, same, given}
use Rattle.lists.specs.Lists.{All, Bytes, joined, piece}
use Rattle.lists.proofs.Pieces.{tabulate-ext}
use Rattle.lists.proofs.Put.{within, part_end}
use Rattle.sizes.specs.declared.Sizes.{Sizes}
use Rattle.sizes.specs.Sizing.{α, stripes}
use Rattle.sizes.proofs.Legal.{Legal, legal-facts, stripes-least}
use Rattle.mbcr.specs.Demand2.{Named}
use Rattle.mbcr.specs.Share.{stripe, share, shares, kept}
use Rattle.mbcr.proofs.Points.{boards-of}
use Rattle.mbcr.proofs.Read.{stripe-decoded}
use Rattle.board_spec.specs.Calls.{file_of}
use Rattle.store_spec.specs.Record.{Record, held, stripe_count, part_len, used_len, area_len}
use Rattle.store_spec.specs.Calls.{file_held}
use Rattle.store_spec.specs.Careful.{holds_share}
use Rattle.store_spec.proofs.Records.{Sound, sound-points}
use Rattle.store_spec.proofs.Held.{file-has, each-shares}
use Rattle.store_spec.proofs.Careful.{holds-by-stripes}
use Rattle.decode_laws.specs.Steps.{held_at}
use Rattle.decode_laws.proofs.Agree.{decoded-ext}
use Rattle.decode_file.proofs.Shares.{held-there}
use Rattle.stripes_cut.specs.Steps.{stripe_at}
use Rattle.decode_area.proofs.Parts.{parts-long, parts-placed, parts-shares, part-few}
use Rattle.stripe_holds.specs.Steps.{holds_stripe, holds_stripes}

-- ---- the share of the file that k boards hold

-- the file that there is
pub file-there : (o : Option (List ℕ)) → given o ≡ true → o ≡ some (file_of o)
file-there (some file) h = refl
file-there none h = let e : ◌≡◌ {A = ℕ} 0 1 = cc in absurd (omega arith)

-- the file's stripes lie in the part of a board
pub stripes-few : (s : Record) → Sound s → stripe_count s ≤ s.capacity
stripes-few s g = stripes-least s.sizes (legal-facts s.sizes g.is-legal) s.length s.capacity g.fits

module _ (s : Record) (area : List ℕ) (g : Sound s) (area-is : length area ≡ area_len s) (ba : Bytes area)
    (boards : List ℕ) (named : Named s.sizes s.sizes.k boards) (there : given (file_held s area boards) ≡ true) where
  abbrev z : Sizes
  z = s.sizes

  abbrev S : ℕ
  S = stripe_count s

  abbrev file : List ℕ
  file = file_of (file_held s area boards)

  legal : Legal z
  legal = legal-facts z g.is-legal

  few : S ≤ s.capacity
  few = stripes-few s g

  abbrev starts : List ℕ
  starts = map (λ b. b * part_len s) boards

  has : (length file ≡ s.length) × Bytes file × All (λ i. held s area i ≡ share s.sizes s.points file i) boards
  has = file-has s area g area-is ba boards named file (file-there (file_held s area boards) there)

  -- a stripe that they decode to is the file's
  stripe-is : (t : ℕ) → t < S → stripe_at z s.points boards starts area t ≡ stripe z file t
  stripe-is t h =
      let lf = has.0 in
      let all : shares z s.points file boards ≡ joined (held s area) boards = each-shares s area g area-is boards named.1 file lf has.2 in
      sym (decoded-ext z s.points boards (λ a. piece (α z) t (piece (stripes z (length file) * α z) a (shares z s.points file boards))) (held_at z starts area t)
      (λ a k.
      ap₂ (λ (m : ℕ) (l : List ℕ). piece (α z) t (piece (stripes z m * α z) a l)) lf
      (all ∙ sym (parts-shares z s.capacity s.length S boards area named.1 area-is refl few))
      ∙ held-there z S starts area (parts-placed z s.capacity s.length S boards area named.1 area-is refl few) t a h
      (omega (arith, k, named.0, parts-long z s.capacity s.length S boards area named.1 area-is refl few))))
      ∙ stripe-decoded z s.points legal (sound-points s g) boards (boards-of z boards named.1 named.2) named.0 file has.1 t (rw lf h)

  -- what it holds of a stripe
  part-is : (i t : ℕ) → t < S → piece (α z) t (held s area i) ≡ take (α z) (drop (i * part_len s + t * α z) area)
  unfolding piece
  part-is i t h = within (α z) (used_len s) (t * α z) (drop (i * part_len s) area) (part_end t (α z) S h) ∙ ap (take (α z)) (drop-drop (t * α z) (i * part_len s) area)

  pub holds-is : (i : ℕ) → i < z.n → holds_stripes z s.points boards starts area S (i * part_len s) i ≡ holds_share s area file i
  holds-is i h =
      ap alls (tabulate-ext S (holds_stripe z s.points boards starts area (i * part_len s) i)
      (λ t. same (piece (α z) t (held s area i)) (kept z s.points (stripe z file t) i))
      (λ t l. ap₂ same (sym (part-is i t l)) (ap (λ (u : List ℕ). kept z s.points u i) (stripe-is t l))))
      ∙ sym (holds-by-stripes s area g area-is file has.0 i h)

  -- the same, as code has it
  pub asked_is : (i S' part : ℕ) (starts' : List ℕ) (r : Bool) → i < z.n → S' ≡ S → part ≡ part_len s → starts' ≡ starts
      → r ≡ holds_stripes z s.points boards starts' area S' (i * part) i → r ≡ holds_share s area file i
  asked_is i S' part starts' r h eS ep es er =
      er ∙ ap₂ (λ (m : ℕ) (l : List ℕ). holds_stripes z s.points boards l area m (i * part) i) eS es
      ∙ ap (λ (p : ℕ). holds_stripes z s.points boards starts area S (i * p) i) ep ∙ holds-is i h

-- the parts of an area
module _ (z : Sizes) (legal : Legal z) (c part : ℕ) (area : List ℕ) (few : c ≤ 4096) (ep : part ≡ c * α z) (la : length area ≡ z.n * (c * α z)) where
  pub part-short : part ≤ 253952
  part-short = omega (arith, ep, part-few z c (α z) legal few refl)

  pub area-short : length area ≤ 8126464
  area-short =
      let q : z.n * (c * α z) ≤ 32 * (c * α z) = mul-le-mul_right (c * α z) legal.few in
      omega (arith, q, la, part-few z c (α z) legal few refl)

  pub starts-low : (i : ℕ) → i < z.n → i * part + part ≤ length area
  starts-low i h = omega (arith, ap (λ (p : ℕ). i * p + p) ep, part_end i (c * α z) z.n h, la)

  -- so many stripes lie in a part
  pub stripes-low : (i S : ℕ) → i < z.n → S ≤ c → i * part + S * α z ≤ length area
  stripes-low i S h k =
      let q : S * α z ≤ c * α z = mul-le-mul_right (α z) k in
      omega (arith, starts-low i h, q, ep)
