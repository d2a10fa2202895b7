-- The shares that the packets lying there make, by places.
-- Assumes nothing.
use Prim.Native.Nat.{ℕ, zero, suc, ◌+◌, ◌-◌, ◌*◌, ◌≤◌, ◌<◌}
use mathlib.Core.Path.{◌≡◌, refl, sym, ◌∙◌, ap, ap₂, subst}
use mathlib.Core.List.{List, [], ◌∷◌, ◌++◌}
use native.Mathlib.Numerals.{add-one}
use native.Mathlib.Omega.{arith}
use native.Mathlib.Nat.{min-eq_left, min-eq_right, mul_assoc}
use lib.ListN.{length, drop, get_or}
use Rattle.lists.specs.Lists.{piece, put, tabulate}
use Rattle.lists.proofs.Pieces.{tabulate-get_d, tabulate-suc}
use Rattle.sizes.specs.declared.Sizes.{Sizes}
use Rattle.sizes.specs.Sizing.{α}
use Rattle.sizes.proofs.Legal.{Legal}
use Rattle.mbcr.specs.Rebuild.{finished_share}
use Rattle.mbcr.proofs.Repair.{length-finished}
use Rattle.area_puts.specs.Steps.{puts}
use Rattle.area_puts.proofs.Puts.{puts-same}
use Rattle.store_spec.specs.Record.{Record, stripe_count, part_len, put_shares}
use Rattle.store_spec.specs.Packets.{Packet, contents, senders_of, sent_to, hear_helpers, hear_partners, stand_ins_each}
use Rattle.beside_spec.specs.Lying.{laid, place_of, helpers_lying, partners_lying, share_lying}
use Rattle.store_spec.proofs.Packets.{senders-append, contents-append}
use Rattle.repair_rows.specs.Steps.{others_at}
use Rattle.repair_rows.proofs.Without.{without-place}
use Rattle.step_laws.specs.Steps.{Listed, partners_at, stood_at, exchanged_at, share_at}
use Rattle.step_laws.proofs.Runs.{run-senders, run-contents, others-senders, others-contents}

module _ (s : Record) (fresh helpers stand_ins packets : List ℕ) (f : Listed s.sizes fresh helpers stand_ins) where
  abbrev S : ℕ
  S = stripe_count s

  abbrev t : ℕ
  t = length fresh

  abbrev d : ℕ
  d = s.sizes.d

  abbrev e : ℕ
  e = stand_ins_each s fresh

  -- where the stand-ins' packets begin, and the exchanges
  place-h : place_of s t (t * d) ≡ t * d * (2 * S)
  place-h = let k : t * d ≤ t * d = omega arith in ap (λ (x : ℕ). (t * d + x) * S) (min-eq_left k) ∙ twice (t * d) S
    where
      twice : (a S : ℕ) → (a + a) * S ≡ a * (2 * S)
      twice a S = omega arith

  place-t : place_of s t (t * d + t * e) ≡ t * d * (2 * S) + t * e * S
  place-t = let k : t * d ≤ t * d + t * e = omega arith in ap (λ (x : ℕ). (t * d + t * e + x) * S) (min-eq_right k) ∙ thrice (t * d) (t * e) S
    where
      thrice : (a b S : ℕ) → (a + b + a) * S ≡ a * (2 * S) + b * S
      thrice a b S = omega arith

  abbrev stand : List Packet
  stand = laid S (hear_helpers e fresh stand_ins) (drop (place_of s t (t * d)) packets)

  abbrev swapped : List Packet
  swapped = laid S (hear_partners fresh) (drop (place_of s t (t * d + t * e)) packets)

  partners-are : (a : ℕ) → a < t → senders_of (sent_to (get_or fresh a 0) (stand ++ swapped)) ≡ partners_at s.sizes s.points S fresh helpers stand_ins packets a
  partners-are a h =
      senders-append (get_or fresh a 0) stand swapped
      ∙ ap₂ {C = List ℕ} (λ (x y : List ℕ). x ++ y) (run-senders fresh f.fresh-different S e stand_ins (drop (place_of s t (t * d)) packets) f.stand-in-count a h)
      (others-senders fresh f.fresh-different S (drop (place_of s t (t * d + t * e)) packets) a h
      ∙ without-place fresh a (t - 1) f.fresh-different h (let k = f.some-fresh in omega arith))

  partners-sent : (a : ℕ) → a < t → contents (sent_to (get_or fresh a 0) (stand ++ swapped))
      ≡ stood_at s.sizes s.points S fresh helpers stand_ins packets a ++ exchanged_at s.sizes s.points S fresh helpers stand_ins packets a
  partners-sent a h =
      contents-append (get_or fresh a 0) stand swapped
      ∙ ap₂ {C = List ℕ} (λ (x y : List ℕ). x ++ y)
      (run-contents fresh f.fresh-different S e stand_ins (drop (place_of s t (t * d)) packets) f.stand-in-count a h
      ∙ ap (λ (m : ℕ). piece (e * S) a (drop m packets)) place-h)
      (others-contents fresh f.fresh-different S (drop (place_of s t (t * d + t * e)) packets) a h
      ∙ ap (λ (m : ℕ). piece ((t - 1) * S) a (drop m packets)) place-t)

  share-at : (a : ℕ) → a < t → share_lying s fresh helpers stand_ins packets (get_or fresh a 0) ≡ share_at s.sizes s.points S fresh helpers stand_ins packets a
  unfolding share_lying helpers_lying partners_lying share_at
  share-at a h =
      ap₂ (λ (hs bytes : List ℕ). finished_share s.sizes s.points S (get_or fresh a 0) hs bytes
      (senders_of (sent_to (get_or fresh a 0) (stand ++ swapped))) (contents (sent_to (get_or fresh a 0) (stand ++ swapped))))
      (run-senders fresh f.fresh-different (2 * S) d helpers packets f.helper-count a h)
      (run-contents fresh f.fresh-different (2 * S) d helpers packets f.helper-count a h)
      ∙ ap₂ (λ (ms sent : List ℕ). finished_share s.sizes s.points S (get_or fresh a 0) (piece d a helpers) (piece (d * (2 * S)) a packets) ms sent) (partners-are a h) (partners-sent a h)

-- ---- shares put one after another

one_more : (s : Record) (f : ℕ → List ℕ) (boards : List ℕ) (i : ℕ) (area : List ℕ)
    → put_shares s f (boards ++ (i ∷ [])) area ≡ put (put_shares s f boards area) (i * part_len s) (f i)
one_more s f [] i area = refl
one_more s f (b ∷ boards) i area = one_more s f boards i (put area (b * part_len s) (f b))

listed : (s : Record) (f : ℕ → List ℕ) (h : ℕ → ℕ) (m : ℕ) (area : List ℕ) → puts (λ a. h a * part_len s) (λ a. f (h a)) m area ≡ put_shares s f (tabulate m h) area
listed s f h zero area = refl
listed s f h (suc m) area =
    ap (λ (l : List ℕ). put l (h m * part_len s) (f (h m))) (listed s f h m area)
    ∙ sym (one_more s f (tabulate m h) (h m) area)
    ∙ ap (λ (l : List ℕ). put_shares s f l area) (sym (tabulate-suc m h))

shares-at : (s : Record) (fresh helpers stand_ins packets area : List ℕ) → Listed s.sizes fresh helpers stand_ins
    → puts (λ a. get_or fresh a 0 * part_len s) (share_at s.sizes s.points (stripe_count s) fresh helpers stand_ins packets) (length fresh) area
    ≡ put_shares s (share_lying s fresh helpers stand_ins packets) fresh area
shares-at s fresh helpers stand_ins packets area f =
    puts-same (λ a. get_or fresh a 0 * part_len s) (λ a. get_or fresh a 0 * part_len s) _ (λ a. share_lying s fresh helpers stand_ins packets (get_or fresh a 0)) (length fresh) area
    (λ a h. refl) (λ a h. sym (share-at s fresh helpers stand_ins packets f a h))
    ∙ listed s (share_lying s fresh helpers stand_ins packets) (λ a. get_or fresh a 0) (length fresh) area
    ∙ ap (λ (l : List ℕ). put_shares s (share_lying s fresh helpers stand_ins packets) l area) (tabulate-get_d (length fresh) fresh 0 refl)

-- over every record with these sizes, points, capacity and stripes
pub shares-every : (z : Sizes) (pts : List ℕ) (C S : ℕ) (fresh helpers stand_ins packets area : List ℕ) → Listed z fresh helpers stand_ins
    → (s : Record) → s.sizes ≡ z → s.points ≡ pts → s.capacity ≡ C → stripe_count s ≡ S
    → puts (λ a. get_or fresh a 0 * (C * α z)) (share_at z pts S fresh helpers stand_ins packets) (length fresh) area
    ≡ put_shares s (share_lying s fresh helpers stand_ins packets) fresh area
shares-every z pts C S fresh helpers stand_ins packets area f s ez ep ec es =
    sym (ap₂ (λ (y : Sizes) (l : List ℕ). puts (λ a. get_or fresh a 0 * (s.capacity * α y)) (share_at y l (stripe_count s) fresh helpers stand_ins packets) (length fresh) area) ez ep
    ∙ ap₂ (λ (c n : ℕ). puts (λ a. get_or fresh a 0 * (c * α z)) (share_at z pts n fresh helpers stand_ins packets) (length fresh) area) ec es)
    ∙ shares-at s fresh helpers stand_ins packets area (subst (λ (y : Sizes). Listed y fresh helpers stand_ins) (sym ez) f)

-- ---- for code

-- the share by the runs of helpers and of stand-ins and the three parts that lie for the a-th fresh board
pub share-by : (z : Sizes) (pts : List ℕ) (S e : ℕ) (fresh helpers stand_ins packets : List ℕ) (a : ℕ) → e ≡ z.r - length fresh
    → finished_share z pts S (get_or fresh a 0) (piece z.d a helpers) (piece (z.d * (2 * S)) a packets) (piece (z.r - length fresh) a stand_ins ++ others_at fresh a)
    (piece (e * S) a (drop (length fresh * (z.d * (2 * S))) packets)
    ++ piece ((length fresh - 1) * S) a (drop (length fresh * (z.d * (2 * S)) + length fresh * (e * S)) packets))
    ≡ share_at z pts S fresh helpers stand_ins packets a
unfolding share_at
share-by z pts S e fresh helpers stand_ins packets a ee =
    ap (λ (k : ℕ). whole (k * S) (length fresh * (z.d * (2 * S))) (length fresh * (k * S))) ee
    ∙ ap₂ (whole ((z.r - length fresh) * S)) (sym (mul_assoc (length fresh) z.d (2 * S))) (sym (mul_assoc (length fresh) (z.r - length fresh) S))
  where
    whole : ℕ → ℕ → ℕ → List ℕ
    whole v x y =
        finished_share z pts S (get_or fresh a 0) (piece z.d a helpers) (piece (z.d * (2 * S)) a packets) (piece (z.r - length fresh) a stand_ins ++ others_at fresh a)
        (piece v a (drop x packets) ++ piece ((length fresh - 1) * S) a (drop (x + y) packets))

-- one share more, and all of them
pub puts-more : (p : ℕ → ℕ) (f : ℕ → List ℕ) (a : ℕ) (l₀ l now : List ℕ) → now ≡ put l (p a) (f a) → l ≡ puts p f a l₀ → now ≡ puts p f (a + 1) l₀
puts-more p f a l₀ l now e el = e ∙ ap (λ (x : List ℕ). put x (p a) (f a)) el ∙ ap (λ (m : ℕ). puts p f m l₀) (sym (add-one a))

pub puts-all : (p : ℕ → ℕ) (f : ℕ → List ℕ) (a m : ℕ) (l₀ l : List ℕ) → a ≡ m → l ≡ puts p f a l₀ → l ≡ puts p f m l₀
puts-all p f a m l₀ l e h = rw e at h

pub length-share-at : (z : Sizes) → Legal z → (pts : List ℕ) (S : ℕ) (fresh helpers stand_ins packets : List ℕ) (a : ℕ)
    → length (share_at z pts S fresh helpers stand_ins packets a) ≡ S * α z
unfolding share_at
length-share-at z legal pts S fresh helpers stand_ins packets a = length-finished z pts legal S (get_or fresh a 0) _ _ _ _
