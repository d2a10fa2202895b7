-- An accepted repair: how much each fresh board gets, what it then holds, and that true shares make true shares.
use Prim.Native.Nat.{ℕ, suc, ◌+◌, ◌-◌, ◌*◌, ◌≤◌, ◌<◌}
use mathlib.Core.Path.{◌≡◌, refl, sym, ◌∙◌, ap, ap₂}
use mathlib.Core.Bool.{true, not}
use mathlib.Core.List.{List, ◌++◌}
use native.Mathlib.Omega.{arith}
use lib.ListN.{length, get_or, take, drop, length-map}
use Rattle.lists.specs.Lists.{joined, without, All, Bytes}
use Rattle.lists.specs.Tests.{among, different}
use Rattle.lists.proofs.Alls.{all_left, all_right, all-imp, append-all, take-alls, drop-alls}
use Rattle.lists.proofs.Boards.{all_without, all-is-among, joined-all, below_all, all-below, length_without}
use Rattle.lists.proofs.Tests.{every-all, all-every}
use Rattle.sizes.specs.Sizing.{α, stripes}
use Rattle.mbcr.specs.Rebuild.{helper_packet, stand_in_packet, exchange_packet, finished_share}
use Rattle.mbcr.specs.Share.{share}
use Rattle.store_spec.specs.Packets.{senders_of, contents, total, hear_helpers, hear_partners, stand_ins_each, helper_packets, stand_in_packets, exchange_packets}
use Rattle.store_spec.specs.Packets.{partner_packets, repair_packets, fresh_share, sent_to}
use Rattle.store_spec.specs.Record.{Record, held, in_service}
use Rattle.store_spec.proofs.Packets.{EachHears, heard, contents-to, total-to, total-all, total-append, total-to-append, length-helpers, helpers-count}
use Rattle.store_spec.proofs.Packets.{receivers-partners, partners-each, by_runs, run-different, run_length, senders-append, contents-append}
use Rattle.store_spec.proofs.Records.{Repairs}
use Rattle.store_spec.proofs.Seam.{Laws, Hears, Lengths}

-- ---- the bytes moved, by the lists' lengths alone

-- q other fresh boards and e stand-ins make r − 1 partners
partners-all : (d r t q : ℕ) → suc q ≡ t → t ≤ r → 2 * d + r - 1 ≡ 2 * d + (r - t + q)
partners-all d r t q e h = omega arith

sum_one : (d e q S : ℕ) → d * (2 * S) + (e * S + q * S) ≡ S * (2 * d + (e + q))
sum_one d e q S = omega arith

sum-all : (d e q t S : ℕ) → t * d * (2 * S) + (t * e * S + t * q * S) ≡ S * t * (2 * d + (e + q))
sum-all d e q t S = omega arith

-- each of some different boards has one fewer others
others-counted : (fresh : List ℕ) → different fresh ≡ true → All (λ i. suc (length (without i fresh)) ≡ length fresh) fresh
others-counted fresh once =
    all-imp (λ i. among fresh i ≡ true) (λ i. suc (length (without i fresh)) ≡ length fresh) (λ i e. length_without i fresh once e) fresh (all-is-among fresh)

module _ (s : Record) (area fresh helpers stand_ins : List ℕ) (laws : Lengths s.points s.sizes) (some : 1 ≤ length fresh) (few : length fresh ≤ s.sizes.r)
    (helper-count : length helpers ≡ length fresh * s.sizes.d) (stand-in-count : length stand_ins ≡ length fresh * stand_ins_each s fresh) (once : different fresh ≡ true) where
  pub total-is : total (repair_packets s area fresh helpers stand_ins) ≡ stripes s.sizes s.length * length fresh * (2 * s.sizes.d + s.sizes.r - 1)
  unfolding repair_packets partner_packets helper_packets stand_in_packets exchange_packets
  total-is =
      let q : suc (length fresh - 1) ≡ length fresh = omega arith in
      let x = partners-all s.sizes.d s.sizes.r (length fresh) (length fresh - 1) q few in
      let n : length (hear_helpers s.sizes.d fresh helpers) ≡ length fresh = length-helpers s.sizes.d fresh helpers in
      let n2 : length (hear_helpers (stand_ins_each s fresh) fresh stand_ins) ≡ length fresh = length-helpers (stand_ins_each s fresh) fresh stand_ins in
      let l : length (hear_partners fresh) ≡ length fresh = length-map fresh (λ i. record { receiver = i; senders = without i fresh }) in
      let p : EachHears (λ i l. length l ≡ length fresh - 1) (hear_partners fresh) =
      partners-each (λ i l. length l ≡ length fresh - 1) fresh
      (all-imp (λ i. suc (length (without i fresh)) ≡ length fresh) (λ i. length (without i fresh) ≡ length fresh - 1) (λ i e. omega arith) fresh (others-counted fresh once)) in
      total-append (helper_packets s area fresh helpers) (partner_packets s area fresh helpers stand_ins)
      ∙ ap (λ (y : ℕ). total (helper_packets s area fresh helpers) + y) (total-append (stand_in_packets s area fresh stand_ins) (exchange_packets s area fresh helpers))
      ∙ rw (
        total-all _ (2 * stripes s.sizes s.length) (λ j i2. laws.helper-length _ _ _ _) (hear_helpers s.sizes.d fresh helpers) s.sizes.d
            (helpers-count s.sizes.d fresh helpers helper-count),
        total-all _ (stripes s.sizes s.length) (λ j i2. laws.stand-in-length _ _ _ _) (hear_helpers (stand_ins_each s fresh) fresh stand_ins) (stand_ins_each s fresh)
            (helpers-count (stand_ins_each s fresh) fresh stand_ins stand-in-count),
        total-all _ (stripes s.sizes s.length) (λ j i2. laws.exchange-length _ _ _ _) (hear_partners fresh) (length fresh - 1) p,
        n,
        n2,
        l,
        x,
      )
      (sum-all s.sizes.d (stand_ins_each s fresh) (length fresh - 1) (length fresh) (stripes s.sizes s.length))

module _ (s : Record) (area fresh helpers stand_ins : List ℕ) (m : ℕ) (laws : Lengths s.points s.sizes) (f : Repairs s m fresh helpers stand_ins) where
  -- ---- who hears whom

  -- the helpers that board i hears, its stand-ins, and the other fresh boards
  unfoldable pub heard_by : ℕ → List ℕ
  heard_by i = senders_of (sent_to i (helper_packets s area fresh helpers))

  unfoldable pub stood_by : ℕ → List ℕ
  stood_by i = senders_of (sent_to i (stand_in_packets s area fresh stand_ins))

  unfoldable pub partners_of : ℕ → List ℕ
  partners_of i = senders_of (sent_to i (exchange_packets s area fresh helpers))

  -- by the runs of both lists
  by_both : (P : ℕ → List ℕ → List ℕ → Type 0)
      → ((a : ℕ) → a < length fresh
      → P (get_or fresh a 0) (take s.sizes.d (drop (a * s.sizes.d) helpers)) (take (stand_ins_each s fresh) (drop (a * stand_ins_each s fresh) stand_ins)))
      → (i : ℕ) → among fresh i ≡ true → P i (heard_by i) (stood_by i)
  unfolding heard_by stood_by helper_packets stand_in_packets
  by_both P all i e = by_runs _ _ s.sizes.d (stand_ins_each s fresh) fresh helpers stand_ins f.fresh-different P all i e

  by-partners : (P : ℕ → List ℕ → Type 0) → All (λ i. P i (without i fresh)) fresh → (i : ℕ) → among fresh i ≡ true → P i (partners_of i)
  unfolding partners_of exchange_packets
  by-partners P a i e =
      let r = receivers-partners fresh in
      heard _ P (hear_partners fresh) i (partners-each P fresh a)
      (ap different r ∙ f.fresh-different)
      (ap (λ (l : List ℕ). among l i) r ∙ e)

  -- of each of the boards named
  named-each : (Q : ℕ → Type 0) → All Q (helpers ++ stand_ins) → (i : ℕ) → among fresh i ≡ true → All Q (heard_by i ++ stood_by i)
  named-each Q a i e =
      by_both (λ j l l2. All Q (l ++ l2))
      (λ b h.
      let l : List ℕ = drop (b * s.sizes.d) helpers in
      let l2 : List ℕ = drop (b * stand_ins_each s fresh) stand_ins in
      append-all Q (take s.sizes.d l) (take (stand_ins_each s fresh) l2)
      (take-alls Q s.sizes.d l (drop-alls Q (b * s.sizes.d) helpers (all_left Q helpers stand_ins a)))
      (take-alls Q (stand_ins_each s fresh) l2 (drop-alls Q (b * stand_ins_each s fresh) stand_ins (all_right Q helpers stand_ins a)))) i e

  pub heard-count : (i : ℕ) → among fresh i ≡ true → length (heard_by i) ≡ s.sizes.d
  heard-count i e = by_both (λ j l l2. length l ≡ s.sizes.d) (λ a h. run_length s.sizes.d a (length fresh) helpers f.helper-count h) i e

  pub stood-count : (i : ℕ) → among fresh i ≡ true → length (stood_by i) ≡ stand_ins_each s fresh
  stood-count i e =
      by_both (λ j l l2. length l2 ≡ stand_ins_each s fresh) (λ a h. run_length (stand_ins_each s fresh) a (length fresh) stand_ins f.stand-in-count h) i e

  pub partner-count : (i : ℕ) → among fresh i ≡ true → suc (length (without i fresh)) ≡ length fresh
  partner-count i e = length_without i fresh f.fresh-different e

  pub partners-counted : All (λ i. suc (length (without i fresh)) ≡ length fresh) fresh
  partners-counted = others-counted fresh f.fresh-different

  pub partners-are : (i : ℕ) → among fresh i ≡ true → partners_of i ≡ without i fresh
  partners-are i e =
      by-partners (λ j l. l ≡ without j fresh) (all-imp (λ j. among fresh j ≡ true) (λ j. without j fresh ≡ without j fresh) (λ j a. refl) fresh (all-is-among fresh)) i e

  -- ---- how much

  pub gets : (i : ℕ) → among fresh i ≡ true
      → total (sent_to i (repair_packets s area fresh helpers stand_ins)) ≡ stripes s.sizes s.length * (2 * s.sizes.d + s.sizes.r - 1)
  unfolding repair_packets partner_packets helper_packets stand_in_packets exchange_packets heard_by stood_by partners_of
  gets i e =
      let S : ℕ = stripes s.sizes s.length in
      let p : length (partners_of i) ≡ length (without i fresh) = ap length (partners-are i e) in
      let x = partners-all s.sizes.d s.sizes.r (length fresh) (length (without i fresh)) (partner-count i e) f.few-fresh in
      total-to-append i (helper_packets s area fresh helpers) (partner_packets s area fresh helpers stand_ins)
      ∙ ap₂ ◌+◌
      (total-to _ (2 * S) (λ j i2. laws.helper-length _ _ _ _) (hear_helpers s.sizes.d fresh helpers) i ∙ ap (λ (y : ℕ). y * (2 * S)) (heard-count i e))
      (total-to-append i (stand_in_packets s area fresh stand_ins) (exchange_packets s area fresh helpers)
      ∙ ap₂ ◌+◌
      (total-to _ S (λ j i2. laws.stand-in-length _ _ _ _) (hear_helpers (stand_ins_each s fresh) fresh stand_ins) i ∙ ap (λ (y : ℕ). y * S) (stood-count i e))
      (total-to _ S (λ j i2. laws.exchange-length _ _ _ _) (hear_partners fresh) i ∙ ap (λ (y : ℕ). y * S) p))
      ∙ sum_one s.sizes.d (stand_ins_each s fresh) (length (without i fresh)) S
      ∙ ap (λ (y : ℕ). S * y) (sym x)

  pub moved-is : total (repair_packets s area fresh helpers stand_ins) ≡ stripes s.sizes s.length * length fresh * (2 * s.sizes.d + s.sizes.r - 1)
  moved-is = total-is s area fresh helpers stand_ins laws f.some-fresh f.few-fresh f.helper-count f.stand-in-count f.fresh-different

  pub fresh-length : (i : ℕ) → length (fresh_share s area fresh helpers stand_ins i) ≡ stripes s.sizes s.length * α s.sizes
  unfolding fresh_share
  fresh-length i = laws.finished-length _ _ _ _ _ _

  -- ---- packets by boards and not by the list, for code

  -- the two kinds of partners
  pub share-parts : (i : ℕ) → fresh_share s area fresh helpers stand_ins i
      ≡ finished_share s.sizes s.points (stripes s.sizes s.length) i
      (senders_of (sent_to i (helper_packets s area fresh helpers))) (contents (sent_to i (helper_packets s area fresh helpers)))
      (senders_of (sent_to i (stand_in_packets s area fresh stand_ins)) ++ senders_of (sent_to i (exchange_packets s area fresh helpers)))
      (contents (sent_to i (stand_in_packets s area fresh stand_ins)) ++ contents (sent_to i (exchange_packets s area fresh helpers)))
  unfolding fresh_share partner_packets
  share-parts i =
      ap₂ (λ (ps cs : List ℕ). finished_share s.sizes s.points (stripes s.sizes s.length) i
      (senders_of (sent_to i (helper_packets s area fresh helpers))) (contents (sent_to i (helper_packets s area fresh helpers))) ps cs)
      (senders-append i (stand_in_packets s area fresh stand_ins) (exchange_packets s area fresh helpers))
      (contents-append i (stand_in_packets s area fresh stand_ins) (exchange_packets s area fresh helpers))

  pub fresh-by : (i : ℕ) → among fresh i ≡ true
      → fresh_share s area fresh helpers stand_ins i
      ≡ finished_share s.sizes s.points (stripes s.sizes s.length) i (heard_by i)
      (joined (λ j. helper_packet s.sizes s.points (stripes s.sizes s.length) j i (held s area j)) (heard_by i)) (stood_by i ++ without i fresh)
      (joined (λ j. stand_in_packet s.sizes s.points (stripes s.sizes s.length) j i (held s area j)) (stood_by i)
      ++ joined
      (λ m. exchange_packet s.sizes s.points (stripes s.sizes s.length) (heard_by m)
      (joined (λ j. helper_packet s.sizes s.points (stripes s.sizes s.length) j m (held s area j)) (heard_by m)) i)
      (without i fresh))
  unfolding helper_packets stand_in_packets exchange_packets heard_by stood_by partners_of
  fresh-by i e =
      let c : (j : ℕ) → contents (sent_to j (helper_packets s area fresh helpers))
      ≡ joined (λ k. helper_packet s.sizes s.points (stripes s.sizes s.length) k j (held s area k)) (heard_by j) =
      λ j. contents-to _ j (hear_helpers s.sizes.d fresh helpers) in
      let a = c i in
      let p = partners-are i e in
      let q : contents (sent_to i (stand_in_packets s area fresh stand_ins))
      ≡ joined (λ j. stand_in_packet s.sizes s.points (stripes s.sizes s.length) j i (held s area j)) (stood_by i) =
      contents-to _ i (hear_helpers (stand_ins_each s fresh) fresh stand_ins) in
      let b : contents (sent_to i (exchange_packets s area fresh helpers))
      ≡ joined
      (λ m. exchange_packet s.sizes s.points (stripes s.sizes s.length) (heard_by m)
      (joined (λ j. helper_packet s.sizes s.points (stripes s.sizes s.length) j m (held s area j)) (heard_by m)) i)
      (without i fresh) =
      contents-to _ i (hear_partners fresh)
      ∙ ap (joined (λ j. exchange_packet s.sizes s.points (stripes s.sizes s.length) (heard_by j) (contents (sent_to j (helper_packets s area fresh helpers))) i)) p
      ∙ joined-all _ _ (without i fresh)
      (all-imp (λ j. among fresh j ≡ true) _
      (λ j u. ap (λ (x : List ℕ). exchange_packet s.sizes s.points (stripes s.sizes s.length) (heard_by j) x i) (c j))
      (without i fresh) (all_without (λ j. among fresh j ≡ true) i fresh (all-is-among fresh))) in
      let w = share-parts i in
      cc

  -- ---- true shares

  module _ (truly : Laws s.points s.sizes) (file : List ℕ) (bytes : Bytes file) (len : s.length ≡ length file)
      (truth : (j : ℕ) → in_service s j ≡ true → held s area j ≡ share s.sizes s.points file j) where
    hears : Hears s.sizes fresh heard_by stood_by
    hears =
        let low = below_all s.sizes.n (fresh ++ (helpers ++ stand_ins)) f.named-below in
        let low2 = all_right (λ x. x < s.sizes.n) fresh (helpers ++ stand_ins) low in
        record {
          few-fresh = f.few-fresh;
          fresh-below = all-below s.sizes.n fresh (all_left (λ x. x < s.sizes.n) fresh (helpers ++ stand_ins) low);
          fresh-different = f.fresh-different;
          count = heard-count;
          stand-in-count = stood-count;
          named-below = λ i e. all-below s.sizes.n (heard_by i ++ stood_by i) (named-each (λ x. x < s.sizes.n) low2 i e);
          named-different = by_both (λ j l l2. different (l ++ l2) ≡ true)
              (run-different s.sizes.d (stand_ins_each s fresh) fresh helpers stand_ins f.named-different);
          none-fresh = λ i e. all-every (λ x. not (among fresh x)) (heard_by i ++ stood_by i)
              (named-each (λ x. not (among fresh x) ≡ true) (every-all (λ x. not (among fresh x)) (helpers ++ stand_ins) f.none-fresh) i e);
        }

    -- the boards named hold their shares
    named-true : (i : ℕ) → among fresh i ≡ true → All (λ j. held s area j ≡ share s.sizes s.points file j) (heard_by i ++ stood_by i)
    named-true i e =
        named-each (λ j. held s area j ≡ share s.sizes s.points file j)
        (all-imp (λ j. in_service s j ≡ true) _ truth (helpers ++ stand_ins) (every-all (in_service s) (helpers ++ stand_ins) f.all_up)) i e

    -- the packets that board i gets from its helpers are those of true shares
    true-packets : (i : ℕ) → among fresh i ≡ true
        → joined (λ j. helper_packet s.sizes s.points (stripes s.sizes s.length) j i (held s area j)) (heard_by i)
        ≡ joined (λ j. helper_packet s.sizes s.points (stripes s.sizes (length file)) j i (share s.sizes s.points file j)) (heard_by i)
    true-packets i e =
        joined-all _ _ (heard_by i)
        (all-imp (λ j. held s area j ≡ share s.sizes s.points file j) _ (λ j t. cc) (heard_by i) (all_left _ (heard_by i) (stood_by i) (named-true i e)))

    true-stand-ins : (i : ℕ) → among fresh i ≡ true
        → joined (λ j. stand_in_packet s.sizes s.points (stripes s.sizes s.length) j i (held s area j)) (stood_by i)
        ≡ joined (λ j. stand_in_packet s.sizes s.points (stripes s.sizes (length file)) j i (share s.sizes s.points file j)) (stood_by i)
    true-stand-ins i e =
        joined-all _ _ (stood_by i)
        (all-imp (λ j. held s area j ≡ share s.sizes s.points file j) _ (λ j t. cc) (stood_by i) (all_right _ (heard_by i) (stood_by i) (named-true i e)))

    true-exchanged : (i : ℕ) → among fresh i ≡ true
        → joined
        (λ j. exchange_packet s.sizes s.points (stripes s.sizes s.length) (heard_by j)
        (joined (λ h. helper_packet s.sizes s.points (stripes s.sizes s.length) h j (held s area h)) (heard_by j)) i)
        (without i fresh)
        ≡ joined
        (λ j. exchange_packet s.sizes s.points (stripes s.sizes (length file)) (heard_by j)
        (joined (λ h. helper_packet s.sizes s.points (stripes s.sizes (length file)) h j (share s.sizes s.points file h)) (heard_by j)) i)
        (without i fresh)
    true-exchanged i e =
        joined-all _ _ (without i fresh)
        (all-imp (λ j. among fresh j ≡ true) _ (λ j u. let t = true-packets j u in cc) (without i fresh)
        (all_without (λ j. among fresh j ≡ true) i fresh (all-is-among fresh)))

    pub true-share : (i : ℕ) → among fresh i ≡ true → fresh_share s area fresh helpers stand_ins i ≡ share s.sizes s.points file i
    true-share i e =
        let a = true-packets i e in
        let q = true-stand-ins i e in
        let b = true-exchanged i e in
        let w = fresh-by i e in
        cc (truly.rebuilt file bytes fresh heard_by stood_by hears i e)
