-- What an accepted repair leaves in the area: the stripes by places are the shares by packets.
-- Assumes nothing.
use Prim.Native.Nat.{ℕ, ◌+◌, ◌*◌, ◌<◌}
use mathlib.Core.Path.{◌≡◌, refl, sym, ap, ap₂, ◌∙◌}
use mathlib.Core.List.{List, ◌++◌}
use native.Mathlib.Omega.{arith}
use lib.ListN.{length, get_or, take, drop, length-append}
use Rattle.lists.specs.Lists.{join, piece}
use Rattle.lists.proofs.Boards.{among-all, get_d-among}
use Rattle.lists.proofs.Pieces.{join-ext, length-join, piece-join, length-piece}
use Rattle.lists.proofs.Put.{within}
use Rattle.sizes.specs.Sizing.{α}
use Rattle.sizes.proofs.Legal.{row_fits}
use Rattle.store_spec.specs.Record.{Record, stripe_count, part_len, held, put_shares}
use Rattle.store_spec.specs.Packets.{sent_to, senders_of, stand_ins_each, helper_packets, stand_in_packets, fresh_share}
use Rattle.store_spec.specs.Calls.{repair_call}
use Rattle.store_spec.proofs.Packets.{heard-run}
use Rattle.store_spec.proofs.Records.{Repairs}
use Rattle.store_spec.proofs.Stripes.{repair-by-stripes}
use Rattle.repair_hear.specs.Steps.{Naming}
use Rattle.area_puts.specs.Steps.{puts}
use Rattle.area_puts.proofs.Puts.{puts-same}
use Rattle.repair_stripe.specs.Steps.{rebuilt}
use Rattle.repair_stripe.proofs.Rebuilt.{rebuilt-same}
use Rattle.store_write.proofs.Places.{by-places}
use Rattle.repair_seam.proofs.Places.{stripe-same}

-- what a board holds of a stripe
held-piece : (s : Record) (area : List ℕ) (t j : ℕ) → t < stripe_count s → piece (α s.sizes) t (held s area j) ≡ piece (α s.sizes) t (drop (j * part_len s) area)
unfolding piece
held-piece s area t j h = within (α s.sizes) (stripe_count s * α s.sizes) (t * α s.sizes) (drop (j * part_len s) area) (row_fits t (stripe_count s) (α s.sizes) h)

as-piece : (d a : ℕ) (l : List ℕ) → take d (drop (a * d) l) ≡ piece d a l
unfolding piece
as-piece d a l = refl

-- the boards that each fresh board names, its helpers and then its stand-ins, one after another
abbrev pub named_of : Record → List ℕ → List ℕ → List ℕ → List ℕ
named_of s fresh helpers stand_ins = join (length fresh) (λ a. piece s.sizes.d a helpers ++ piece (stand_ins_each s fresh) a stand_ins)

-- so many for each
abbrev pub run_of : Record → List ℕ → ℕ
run_of s fresh = s.sizes.d + stand_ins_each s fresh

module _ (s : Record) (area fresh helpers stand_ins : List ℕ) (f : Repairs s (length area) fresh helpers stand_ins)
    (done : (repair_call s area fresh helpers stand_ins).answer.refusal ≡ 0) where
  abbrev H : ℕ → List ℕ
  H m = senders_of (sent_to m (helper_packets s area fresh helpers))

  abbrev Si : ℕ → List ℕ
  Si m = senders_of (sent_to m (stand_in_packets s area fresh stand_ins))

  abbrev named : List ℕ
  named = named_of s fresh helpers stand_ins

  abbrev c : ℕ
  c = run_of s fresh

  pub naming : Naming s.sizes (length fresh) c
  naming = let h = f.few-fresh in record { some = f.some-fresh; helps = omega arith; whole = omega arith }

  helpers-run : (b : ℕ) → b < length fresh → H (get_or fresh b 0) ≡ piece s.sizes.d b helpers
  unfolding helper_packets
  helpers-run b h = heard-run _ s.sizes.d fresh helpers f.fresh-different b h ∙ as-piece s.sizes.d b helpers

  stand-ins-run : (b : ℕ) → b < length fresh → Si (get_or fresh b 0) ≡ piece (stand_ins_each s fresh) b stand_ins
  unfolding stand_in_packets
  stand-ins-run b h = heard-run _ (stand_ins_each s fresh) fresh stand_ins f.fresh-different b h ∙ as-piece (stand_ins_each s fresh) b stand_ins

  helpers-count : (b : ℕ) → b < length fresh → length (piece s.sizes.d b helpers) ≡ s.sizes.d
  helpers-count b h = length-piece s.sizes.d b helpers (omega (arith, f.helper-count, row_fits b (length fresh) s.sizes.d h))

  stand-ins-count : (b : ℕ) → b < length fresh → length (piece (stand_ins_each s fresh) b stand_ins) ≡ stand_ins_each s fresh
  stand-ins-count b h = length-piece (stand_ins_each s fresh) b stand_ins (omega (arith, f.stand-in-count, row_fits b (length fresh) (stand_ins_each s fresh) h))

  run-count : (b : ℕ) → b < length fresh → length (piece s.sizes.d b helpers ++ piece (stand_ins_each s fresh) b stand_ins) ≡ c
  run-count b h = length-append (piece s.sizes.d b helpers) (piece (stand_ins_each s fresh) b stand_ins) ∙ ap₂ ◌+◌ (helpers-count b h) (stand-ins-count b h)

  pub named_count : length named ≡ length fresh * c
  named_count = length-join (length fresh) c _ run-count

  runs : (b : ℕ) → b < length fresh → piece c b named ≡ H (get_or fresh b 0) ++ Si (get_or fresh b 0)
  runs b h =
      piece-join (length fresh) c _ run-count b h ∙ sym (ap₂ {C = List ℕ} (λ x y. x ++ y) (helpers-run b h) (stand-ins-run b h))

  share-at : (a : ℕ) → a < length fresh
      → join (stripe_count s) (λ t. rebuilt s.sizes s.points (λ j. piece (α s.sizes) t (drop (j * part_len s) area)) fresh c named a)
      ≡ fresh_share s area fresh helpers stand_ins (get_or fresh a 0)
  share-at a h =
      join-ext (stripe_count s) _ _
      (λ t k.
      rebuilt-same s.sizes s.points fresh c named (λ j. piece (α s.sizes) t (drop (j * part_len s) area)) (λ j. piece (α s.sizes) t (held s area j))
      (among-all _ named (λ j e. sym (held-piece s area t j k))) a
      ∙ sym (stripe-same s.sizes s.points (λ j. piece (α s.sizes) t (held s area j)) fresh c named H Si naming named_count f.fresh-different runs
      (λ b q. ap length (helpers-run b q) ∙ helpers-count b q) a h))
      ∙ sym (repair-by-stripes s area fresh helpers stand_ins done (get_or fresh a 0) (get_d-among fresh a h))

  pub repaired : puts (λ a. get_or fresh a 0 * part_len s)
      (λ a. join (stripe_count s) (λ t. rebuilt s.sizes s.points (λ j. piece (α s.sizes) t (drop (j * part_len s) area)) fresh c named a)) (length fresh) area
      ≡ put_shares s (fresh_share s area fresh helpers stand_ins) fresh area
  repaired =
      puts-same (λ a. get_or fresh a 0 * part_len s) (λ a. get_or fresh a 0 * part_len s) _ (λ a. fresh_share s area fresh helpers stand_ins (get_or fresh a 0)) (length fresh) area
      (λ a h. refl) share-at
      ∙ by-places s (fresh_share s area fresh helpers stand_ins) fresh (length fresh) area refl
