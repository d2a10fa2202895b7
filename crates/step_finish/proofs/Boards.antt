-- The share of one fresh board put at its place, and all of them, over any lists.
-- Assumes nothing.
use Prim.Native.Nat.{ℕ, ◌+◌, ◌-◌, ◌*◌, ◌<◌, ◌≤◌}
use mathlib.Core.Path.{◌≡◌, ap, ap₂, ◌∙◌}
use mathlib.Core.List.{List, ◌++◌}
use native.Mathlib.Nat.{mul-le-mul}
use native.Mathlib.Omega.{arith}
use lib.ListN.{length, get_or, drop}
use borrow.Rule.Slice.PartMut.{put_mid}
use Rattle.lists.specs.Lists.{piece, put}
use Rattle.sizes.specs.declared.Sizes.{Sizes}
use Rattle.sizes.specs.Sizing.{α}
use Rattle.sizes.proofs.Legal.{Legal}
use Rattle.mbcr.specs.Rebuild.{finished_share}
use Rattle.area_puts.specs.Steps.{puts}
use Rattle.store_spec.specs.Record.{Record, stripe_count, put_shares}
use Rattle.beside_spec.specs.Lying.{share_lying}
use Rattle.repair_rows.specs.Steps.{others_at}
use Rattle.step_laws.specs.Steps.{Listed, share_at}
use Rattle.step_laws.proofs.Facts.{helpers-served, stand-ins-served, run_end, few-packets}
use Rattle.step_laws.proofs.Held.{put_whole}
use Rattle.step_laws.proofs.Shares.{share-by, length-share-at, shares-every}

-- where the runs of helpers and of stand-ins of the a-th fresh board end
pub record Runs (d e a h s : ℕ) : Type 0 where
  pub helpers-end : a * d + d ≤ h
  pub helpers-few : h ≤ 1024
  pub stand-ins-end : a * e + e ≤ s
  pub stand-ins-few : s ≤ 1024

module _ (z : Sizes) (f : Legal z) (fresh helpers stand_ins : List ℕ) (l : Listed z fresh helpers stand_ins) where
  pub runs : (a : ℕ) → a < length fresh → Runs z.d (z.r - length fresh) a (length helpers) (length stand_ins)
  runs a h =
      let t : ℕ = length fresh in
      let most : t ≤ 32 = omega (arith, l.few-fresh, f.enough, f.few) in
      let each : z.r - t ≤ 32 = omega (arith, f.enough, f.few) in
      record {
        helpers-end = run_end z.n z.d fresh helpers (helpers-served z fresh helpers stand_ins l) a h;
        helpers-few = omega (arith, l.helper-count, (few-packets z f t l.few-fresh).0);
        stand-ins-end = run_end z.n (z.r - t) fresh stand_ins (stand-ins-served z fresh helpers stand_ins l) a h;
        stand-ins-few = omega (arith, l.stand-in-count, mul-le-mul most each);
      }

module _ (z : Sizes) (f : Legal z) (pts : List ℕ) (C S : ℕ) (fresh helpers stand_ins packets area : List ℕ) where
  -- the share of the a-th fresh board, made by its runs, to its place
  pub share-put : (a : ℕ) (hs ss made : List ℕ) → hs ≡ piece z.d a helpers → ss ≡ piece (z.r - length fresh) a stand_ins → length ss ≡ z.r - length fresh
      → made
      ≡ finished_share z pts S (get_or fresh a 0) hs (piece (z.d * (2 * S)) a packets) (ss ++ others_at fresh a)
      (piece (length ss * S) a (drop (length fresh * (z.d * (2 * S))) packets)
      ++ piece ((length fresh - 1) * S) a (drop (length fresh * (z.d * (2 * S)) + length fresh * (length ss * S)) packets))
      → let at = get_or fresh a 0 * (C * α z) in
      put_mid at (at + S * α z - at) area made ≡ put area at (share_at z pts S fresh helpers stand_ins packets a)
  share-put a hs ss made eh es el em =
      let at : ℕ = get_or fresh a 0 * (C * α z) in
      ap (put_mid at (at + S * α z - at) area) (em ∙ ap₂ by eh es ∙ share-by z pts S (length ss) fresh helpers stand_ins packets a el)
      ∙ put_whole at (S * α z) area _ (length-share-at z f pts S fresh helpers stand_ins packets a)
    where
      by : List ℕ → List ℕ → List ℕ
      by x y =
          finished_share z pts S (get_or fresh a 0) x (piece (z.d * (2 * S)) a packets) (y ++ others_at fresh a)
          (piece (length ss * S) a (drop (length fresh * (z.d * (2 * S))) packets)
          ++ piece ((length fresh - 1) * S) a (drop (length fresh * (z.d * (2 * S)) + length fresh * (length ss * S)) packets))

  -- all shares by places are those of the definition, whatever the record's other fields
  pub all-put : (done : List ℕ) → Listed z fresh helpers stand_ins
      → done ≡ puts (λ a. get_or fresh a 0 * (C * α z)) (share_at z pts S fresh helpers stand_ins packets) (length fresh) area
      → (s : Record) → s.sizes ≡ z → s.points ≡ pts → s.capacity ≡ C → stripe_count s ≡ S
      → done ≡ put_shares s (share_lying s fresh helpers stand_ins packets) fresh area
  all-put done l e s ez ep ec es = e ∙ shares-every z pts C S fresh helpers stand_ins packets area l s ez ep ec es
