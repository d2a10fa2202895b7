-- The packets of a stepped repair as they lie: those carried are the whole repair's, and the last step's shares are its.
-- Assumes nothing.
use Prim.Native.Nat.{ℕ, zero, suc, ◌+◌, ◌-◌, ◌*◌, ◌≤◌, ◌<◌, min}
use mathlib.Core.Path.{◌≡◌, refl, sym, ◌∙◌, ap, ap₂, subst}
use mathlib.Core.List.{List, [], ◌∷◌, ◌++◌, map, append-nil}
use native.Mathlib.Omega.{arith}
use native.Mathlib.Nat.{suc-mul, zero-mul, min-eq_left, min-eq_right}
use native.Mathlib.Decide.{dec_lt}
use lib.ListN.{length, take, drop, get_or, length-append, length-map, take-append-drop, get_or-append}
use lib.Seq.{take_at, drop_at, take-add, take-take, take_all, take-suc, drop-drop, take-append-le, take-append-add, length-take-le, take-length}
use Rattle.lists.specs.Lists.{concat, without, put}
use Rattle.lists.proofs.Alls.{all-imp}
use Rattle.mbcr.specs.Rebuild.{helper_packet, stand_in_packet, exchange_packet, finished_share}
use Rattle.lists.proofs.Pieces.{map-append}
use Rattle.lists.proofs.Put.{length-put}
use Rattle.store_spec.specs.Record.{Record, stripe_count, held}
use Rattle.store_spec.specs.Packets.{Packet, Hearing, packets_of, contents, total, senders_of, sent_to, hear_helpers, hear_partners, stand_ins_each, helper_packets, stand_in_packets, exchange_packets}
use Rattle.store_spec.specs.Packets.{partner_packets, repair_packets, fresh_share}
use Rattle.beside_spec.specs.Running.{packet_count, packets_len}
use Rattle.beside_spec.specs.Lying.{laid_to, laid, place_of, helpers_lying, exchanges_made, partners_lying, share_lying, blank, packets_now, carry}
use Rattle.store_spec.proofs.Packets.{Wide, total-wide, wide-holding, holding, packet-count, total-append, concat-append, helpers-count, length-helpers, partners-each}
use Rattle.store_spec.proofs.Records.{Repairs}
use Rattle.store_spec.proofs.Repair.{moved-is, partners-counted}
use Rattle.store_spec.proofs.Seam.{Lengths}

-- ---- bytes that begin with others

abbrev pub Begins : List ℕ → List ℕ → Type 0
Begins l x = take (length x) l ≡ x

pub begins-left : (x y l : List ℕ) → Begins l (x ++ y) → Begins l x
begins-left x y l h =
    sym (take-take (length x) (length (x ++ y)) l (omega (arith, length-append x y)))
    ∙ ap (take (length x)) h ∙ take_at x y (length x) refl

pub begins-right : (x y l : List ℕ) → Begins l (x ++ y) → Begins (drop (length x) l) y
begins-right x y l h =
    let e : take (length x) l ++ take (length y) (drop (length x) l) ≡ x ++ y =
    sym (take-add (length x) (length y) l) ∙ ap (λ (m : ℕ). take m l) (sym (length-append x y)) ∙ h in
    let b = begins-left x y l h in
    let e2 : x ++ take (length y) (drop (length x) l) ≡ x ++ y = ap (λ (z : List ℕ). z ++ take (length y) (drop (length x) l)) (sym b) ∙ e in
    sym (drop_at x (take (length y) (drop (length x) l)) (length x) refl) ∙ ap (drop (length x)) e2 ∙ drop_at x y (length x) refl

-- bytes put behind those that they begin with
pub begins-put : (x b l : List ℕ) (at : ℕ) → at ≡ length x → Begins l x → Begins (put l at b) (x ++ b)
unfolding put
begins-put x b l at e h =
    let t : take at l ≡ x = ap (λ (m : ℕ). take m l) e ∙ h in
    ap (λ (z : List ℕ). take (length (x ++ b)) (z ++ b ++ drop (at + length b) l)) t ∙ take_at (x ++ b) (drop (at + length b) l) (length (x ++ b)) refl

-- bytes as long as those that they begin with
pub begins-all : (x l : List ℕ) → length l ≡ length x → Begins l x → l ≡ x
begins-all x l e h = sym (take_all (length x) l (omega (arith, e))) ∙ h

-- ---- packets and their bytes

pub contents-both : (ps qs : List Packet) → contents (ps ++ qs) ≡ contents ps ++ contents qs
contents-both ps qs = ap concat (map-append (λ p. p.bytes) ps qs) ∙ concat-append (map (λ p. p.bytes) ps) (map (λ p. p.bytes) qs)

pub contents-long : (ps : List Packet) → length (contents ps) ≡ total ps
contents-long [] = refl
contents-long (p ∷ ps) = length-append p.bytes (contents ps) ∙ ap (λ (m : ℕ). length p.bytes + m) (contents-long ps)

-- packets cut out of bytes that begin with them
module _ (f : ℕ → ℕ → List ℕ) (w : ℕ) (long : (j i : ℕ) → length (f j i) ≡ w) where
  abbrev mailed : ℕ → List ℕ → List Packet
  mailed i js = map (λ j. record { sender = j; receiver = i; bytes = f j i }) js

  mailed-long : (i : ℕ) (js : List ℕ) → length (contents (mailed i js)) ≡ length js * w
  mailed-long i [] = sym (zero-mul w)
  mailed-long i (j ∷ js) = length-append (f j i) (contents (mailed i js)) ∙ rw (long j i, mailed-long i js, suc-mul) (omega arith)

  laid_to-back : (i : ℕ) (js l : List ℕ) → Begins l (contents (mailed i js)) → laid_to w i js l ≡ mailed i js
  laid_to-back i [] l h = refl
  laid_to-back i (j ∷ js) l h =
      let a = begins-left (f j i) (contents (mailed i js)) l h in
      let b = begins-right (f j i) (contents (mailed i js)) l h in
      let x : take w l ≡ f j i = ap (λ (m : ℕ). take m l) (sym (long j i)) ∙ a in
      let y : laid_to w i js (drop w l) ≡ mailed i js =
      laid_to-back i js (drop w l) (subst (λ (m : ℕ). Begins (drop m l) (contents (mailed i js))) (long j i) b) in
      ap₂ {C = List Packet} (λ (z : List ℕ) (t : List Packet). record { sender = j; receiver = i; bytes = z } ∷ t) x y

  pub laid-back : (hs : List Hearing) (l : List ℕ) → Begins l (contents (packets_of f hs)) → laid w hs l ≡ packets_of f hs
  laid-back [] l h = refl
  laid-back (h ∷ hs) l b =
      let i : ℕ = h.receiver in
      let js : List ℕ = h.senders in
      let c : contents (mailed i js ++ packets_of f hs) ≡ contents (mailed i js) ++ contents (packets_of f hs) = contents-both (mailed i js) (packets_of f hs) in
      let b2 : Begins l (contents (mailed i js) ++ contents (packets_of f hs)) = subst (Begins l) c b in
      let x = begins-left (contents (mailed i js)) (contents (packets_of f hs)) l b2 in
      let y = begins-right (contents (mailed i js)) (contents (packets_of f hs)) l b2 in
      ap₂ {C = List Packet} (λ (z t : List Packet). z ++ t) (laid_to-back i js l x)
      (laid-back hs (drop (length js * w) l) (subst (λ (m : ℕ). Begins (drop m l) (contents (packets_of f hs))) (mailed-long i js) y))

-- ---- packets of one length

wide-take : (w c : ℕ) (ps : List Packet) → Wide w ps → Wide w (take c ps)
wide-take w zero ps h = tt
wide-take w (suc c) [] h = tt
wide-take w (suc c) (p ∷ ps) h = (h.0, wide-take w c ps h.1)

pub wide_both : (w : ℕ) (ps qs : List Packet) → Wide w ps → Wide w qs → Wide w (ps ++ qs)
wide_both w [] qs a b = b
wide_both w (p ∷ ps) qs a b = (a.0, wide_both w ps qs a.1 b)

pub wide_of : (f : ℕ → ℕ → List ℕ) (w : ℕ) → ((j i : ℕ) → length (f j i) ≡ w) → (hs : List Hearing) → Wide w (packets_of f hs)
wide_of f w long hs = wide-holding w f long (packets_of f hs) (holding f hs)

-- the bytes before packet c, where helper packets have twice the width
pub before : (S : ℕ) (hs ps : List Packet) → Wide (2 * S) hs → Wide S ps → (c : ℕ) → c ≤ length (hs ++ ps) → total (take c (hs ++ ps)) ≡ (c + min c (length hs)) * S
before S hs ps wh wp c h = go (dec_lt c (length hs))
  where
    go : Dec (c < length hs) → total (take c (hs ++ ps)) ≡ (c + min c (length hs)) * S
    go (yes l) =
        let k : c ≤ length hs = omega arith in
        ap total (take-append-le c hs ps k)
        ∙ total-wide (2 * S) (take c hs) (wide-take (2 * S) c hs wh)
        ∙ ap (λ (m : ℕ). m * (2 * S)) (length-take-le c hs k)
        ∙ let e : min c (length hs) ≡ c = min-eq_left k in rw e (omega arith)
    go (no l) =
        let k : length hs ≤ c = omega arith in
        let j : length hs + (c - length hs) ≡ c = omega arith in
        let n : c - length hs ≤ length ps = omega (arith, length-append hs ps) in
        let e : min c (length hs) ≡ length hs = min-eq_right k in
        ap (λ (m : ℕ). total (take m (hs ++ ps))) (sym j)
        ∙ ap total (take-append-add hs ps (c - length hs))
        ∙ total-append hs (take (c - length hs) ps)
        ∙ ap₂ ◌+◌ (total-wide (2 * S) hs wh)
        (total-wide S (take (c - length hs) ps) (wide-take S (c - length hs) ps wp) ∙ ap (λ (m : ℕ). m * S) (length-take-le (c - length hs) ps n))
        ∙ rw e (sum (length hs) (c - length hs) c S j)
      where
        sum : (a b c S : ℕ) → a + b ≡ c → a * (2 * S) + b * S ≡ (c + a) * S
        sum a b c S e = rw (← e) (omega arith)

-- ---- the packets of a repair that its lists allow

module _ (s : Record) (area fresh helpers stand_ins : List ℕ) (m : ℕ) (laws : Lengths s.points s.sizes) (f : Repairs s m fresh helpers stand_ins) where
  abbrev S : ℕ
  S = stripe_count s

  abbrev R : List Packet
  R = repair_packets s area fresh helpers stand_ins

  abbrev H : List Packet
  H = helper_packets s area fresh helpers

  abbrev T : List Packet
  T = stand_in_packets s area fresh stand_ins

  abbrev E : List Packet
  E = exchange_packets s area fresh helpers

  R-is : R ≡ H ++ (T ++ E)
  unfolding repair_packets partner_packets
  R-is = refl

  pub H-wide : Wide (2 * S) H
  unfolding helper_packets
  H-wide = wide_of (λ j i. helper_packet s.sizes s.points S j i (held s area j)) (2 * S) (λ j i. laws.helper-length S j i (held s area j)) (hear_helpers s.sizes.d fresh helpers)

  pub T-wide : Wide S T
  unfolding stand_in_packets
  T-wide = wide_of (λ j i. stand_in_packet s.sizes s.points S j i (held s area j)) S (λ j i. laws.stand-in-length S j i (held s area j)) (hear_helpers (stand_ins_each s fresh) fresh stand_ins)

  E-wide : Wide S E
  unfolding exchange_packets
  E-wide =
      wide_of (λ i k. exchange_packet s.sizes s.points S (senders_of (sent_to i H)) (contents (sent_to i H)) k) S
      (λ i k. laws.exchange-length S (senders_of (sent_to i H)) (contents (sent_to i H)) k) (hear_partners fresh)

  pub H-count : length H ≡ length fresh * s.sizes.d
  unfolding helper_packets
  H-count =
      packet-count _ s.sizes.d (hear_helpers s.sizes.d fresh helpers) (helpers-count s.sizes.d fresh helpers f.helper-count)
      ∙ ap (λ (x : ℕ). x * s.sizes.d) (length-helpers s.sizes.d fresh helpers)

  pub T-count : length T ≡ length fresh * stand_ins_each s fresh
  unfolding stand_in_packets
  T-count =
      packet-count _ (stand_ins_each s fresh) (hear_helpers (stand_ins_each s fresh) fresh stand_ins) (helpers-count (stand_ins_each s fresh) fresh stand_ins f.stand-in-count)
      ∙ ap (λ (x : ℕ). x * stand_ins_each s fresh) (length-helpers (stand_ins_each s fresh) fresh stand_ins)

  E-count : length E ≡ length fresh * (length fresh - 1)
  unfolding exchange_packets
  E-count =
      packet-count _ (length fresh - 1) (hear_partners fresh)
      (partners-each (λ i l. length l ≡ length fresh - 1) fresh
      (all-imp (λ i. suc (length (without i fresh)) ≡ length fresh) (λ i. length (without i fresh) ≡ length fresh - 1) (λ i e. omega arith) fresh
      (partners-counted s area fresh helpers stand_ins m laws f)))
      ∙ ap (λ (x : ℕ). x * (length fresh - 1)) (length-map fresh (λ i. record { receiver = i; senders = without i fresh }))

  -- "exactly t(d + r − 1) packets"
  pub R-count : length R ≡ packet_count s.sizes (length fresh)
  R-count =
      ap length R-is ∙ length-append H (T ++ E) ∙ ap (λ (x : ℕ). length H + x) (length-append T E) ∙ rw (H-count, T-count, E-count)
      (sum (length fresh) s.sizes.d s.sizes.r f.some-fresh f.few-fresh)
    where
      sum : (t d r : ℕ) → 1 ≤ t → t ≤ r → t * d + (t * (r - t) + t * (t - 1)) ≡ t * (d + r - 1)
      sum t d r a b =
          let x : d + r - 1 ≡ d + ((r - t) + (t - 1)) = omega arith in
          rw x (spread t d (r - t) (t - 1))
        where
          spread : (t d a b : ℕ) → t * d + (t * a + t * b) ≡ t * (d + (a + b))
          spread t d a b = omega arith

  pub R-total : total R ≡ packets_len s (length fresh)
  R-total = moved-is s area fresh helpers stand_ins m laws f

  -- packet c begins behind those before it
  pub place_is : (c : ℕ) → c ≤ length R → place_of s (length fresh) c ≡ length (contents (take c R))
  unfolding repair_packets partner_packets
  place_is c h =
      sym (contents-long (take c R)
      ∙ before S H (T ++ E) H-wide (wide_both S T E T-wide E-wide) c h
      ∙ ap (λ (x : ℕ). (c + min c x) * S) H-count)

  -- ---- what lies there

  H-laid : (packets : List ℕ) → Begins packets (contents H) → helpers_lying s fresh helpers packets ≡ H
  unfolding helpers_lying helper_packets
  H-laid packets b = laid-back _ (2 * S) (λ j i. laws.helper-length _ _ _ _) (hear_helpers s.sizes.d fresh helpers) packets b

  E-made : (packets : List ℕ) → Begins packets (contents H) → exchanges_made s fresh helpers packets ≡ E
  unfolding exchanges_made exchange_packets
  E-made packets b =
      ap (λ (hs : List Packet). packets_of (λ i m. exchange_packet s.sizes s.points (stripe_count s) (senders_of (sent_to i hs)) (contents (sent_to i hs)) m) (hear_partners fresh))
      (H-laid packets b)

  -- the packet that comes next is the whole repair's
  now-is : (packets : List ℕ) (c : ℕ) → Begins packets (contents (take c R)) → c < length R
      → get_or (packets_now s fresh helpers stand_ins area packets) c blank ≡ get_or R c blank
  unfolding packets_now repair_packets partner_packets
  now-is packets c b h = go (dec_lt c (length H))
    where
      go : Dec (c < length H) → get_or (H ++ (T ++ exchanges_made s fresh helpers packets)) c blank ≡ get_or (H ++ (T ++ E)) c blank
      go (yes l) = get_or-append H (T ++ exchanges_made s fresh helpers packets) blank c l ∙ sym (get_or-append H (T ++ E) blank c l)
      go (no l) =
          let j : length H + (c - length H) ≡ c = omega arith in
          let e : take c (H ++ (T ++ E)) ≡ H ++ take (c - length H) (T ++ E) =
          ap (λ (x : ℕ). take x (H ++ (T ++ E))) (sym j) ∙ take-append-add H (T ++ E) (c - length H) in
          let b2 : Begins packets (contents H ++ contents (take (c - length H) (T ++ E))) =
          subst (Begins packets) (ap contents e ∙ contents-both H (take (c - length H) (T ++ E))) b in
          ap (λ (x : List Packet). get_or (H ++ (T ++ x)) c blank) (E-made packets (begins-left (contents H) (contents (take (c - length H) (T ++ E))) packets b2))

  one_more : (c : ℕ) → c < length R → contents (take (suc c) R) ≡ contents (take c R) ++ (get_or R c blank).bytes
  one_more c h = ap contents (take-suc R c blank h) ∙ contents-both (take c R) (get_or R c blank ∷ []) ∙ ap (λ (l : List ℕ). contents (take c R) ++ l) (append-nil (get_or R c blank).bytes)

  -- so many carried lie as the whole repair's, and the area is as long
  pub record Lies (c : ℕ) (packets : List ℕ) : Type 0 where
    pub long : length packets ≡ packets_len s (length fresh)
    pub begins : Begins packets (contents (take c R))

  front_less : (c : ℕ) → c ≤ length R → length (contents (take c R)) ≤ packets_len s (length fresh)
  front_less c h =
      let e : total (take c R) + total (drop c R) ≡ total R = sym (total-append (take c R) (drop c R)) ∙ ap total (take-append-drop c R) in
      omega (arith, contents-long (take c R), e, R-total)

  one-carried : (c : ℕ) (packets : List ℕ) → c < length R → Lies c packets
      → Lies (suc c) (put packets (place_of s (length fresh) c) (get_or (packets_now s fresh helpers stand_ins area packets) c blank).bytes)
  one-carried c packets h l =
      let k : c ≤ length R = omega arith in
      let e : (get_or (packets_now s fresh helpers stand_ins area packets) c blank).bytes ≡ (get_or R c blank).bytes = ap (λ (p : Packet). p.bytes) (now-is packets c l.begins h) in
      let b : List ℕ = (get_or R c blank).bytes in
      let o = one_more c h in
      let fits : place_of s (length fresh) c + length b ≤ length packets =
      omega (arith, place_is c k, front_less (suc c) h, l.long, ap length o ∙ length-append (contents (take c R)) b) in
      rw e (record {
        long = length-put packets (place_of s (length fresh) c) b fits ∙ l.long;
        begins = subst (Begins (put packets (place_of s (length fresh) c) b)) (sym o) (begins-put (contents (take c R)) b packets (place_of s (length fresh) c) (place_is c k) l.begins);
      })

  pub carried-on : (m c : ℕ) (packets : List ℕ) → c + m ≤ length R → Lies c packets → Lies (c + m) (carry s fresh helpers stand_ins area c m packets)
  carried-on zero c packets h l = let e : c + zero ≡ c = omega arith in rw e l
  carried-on (suc m) c packets h l =
      let e : c + suc m ≡ suc c + m = omega arith in
      rw e (carried-on m (suc c) (put packets (place_of s (length fresh) c) (get_or (packets_now s fresh helpers stand_ins area packets) c blank).bytes) (omega arith)
      (one-carried c packets (omega arith) l))

  -- all carried: the area has just the whole repair's packets
  pub all_lie : (packets : List ℕ) → Lies (length R) packets → packets ≡ contents R
  all_lie packets l =
      begins-all (contents R) packets (l.long ∙ sym (contents-long R ∙ R-total)) (subst (λ (ps : List Packet). Begins packets (contents ps)) (take-length R) l.begins)

  -- ---- and the shares that they make are the whole repair's

  c-is : contents R ≡ contents H ++ (contents T ++ contents E)
  c-is = ap contents R-is ∙ contents-both H (T ++ E) ∙ ap (λ (l : List ℕ). contents H ++ l) (contents-both T E)

  b_all : Begins (contents R) (contents H ++ (contents T ++ contents E))
  b_all = subst (Begins (contents R)) c-is (take-length (contents R))

  b-h : Begins (contents R) (contents H)
  b-h = begins-left (contents H) (contents T ++ contents E) (contents R) b_all

  b-te : Begins (drop (length (contents H)) (contents R)) (contents T ++ contents E)
  b-te = begins-right (contents H) (contents T ++ contents E) (contents R) b_all

  b-e : Begins (drop (length (contents H) + length (contents T)) (contents R)) (contents E)
  b-e =
      subst (λ (l : List ℕ). Begins l (contents E)) (drop-drop (length (contents T)) (length (contents H)) (contents R))
      (begins-right (contents T) (contents E) (drop (length (contents H)) (contents R)) b-te)

  twice : (a S : ℕ) → (a + a) * S ≡ a * (2 * S)
  twice a S = omega arith

  thrice : (a b S : ℕ) → (a + b + a) * S ≡ a * (2 * S) + b * S
  thrice a b S = omega arith

  H-long : length fresh * s.sizes.d * (2 * S) ≡ length (contents H)
  H-long = sym (contents-long H ∙ total-wide (2 * S) H H-wide ∙ ap (λ (x : ℕ). x * (2 * S)) H-count)

  T-long : length fresh * stand_ins_each s fresh * S ≡ length (contents T)
  T-long = sym (contents-long T ∙ total-wide S T T-wide ∙ ap (λ (x : ℕ). x * S) T-count)

  place-h : place_of s (length fresh) (length fresh * s.sizes.d) ≡ length (contents H)
  place-h =
      let a : ℕ = length fresh * s.sizes.d in
      let k : a ≤ a = omega arith in
      ap (λ (x : ℕ). (a + x) * S) (min-eq_left k) ∙ twice a S ∙ H-long

  place-t : place_of s (length fresh) (length fresh * s.sizes.d + length fresh * stand_ins_each s fresh) ≡ length (contents H) + length (contents T)
  place-t =
      let a : ℕ = length fresh * s.sizes.d in
      let b : ℕ = length fresh * stand_ins_each s fresh in
      let k : a ≤ a + b = omega arith in
      ap (λ (x : ℕ). (a + b + x) * S) (min-eq_right k) ∙ thrice a b S ∙ ap₂ ◌+◌ H-long T-long

  T-laid : (l : List ℕ) → Begins l (contents T) → laid S (hear_helpers (stand_ins_each s fresh) fresh stand_ins) l ≡ T
  unfolding stand_in_packets
  T-laid l b = laid-back _ S (λ j i. laws.stand-in-length _ _ _ _) (hear_helpers (stand_ins_each s fresh) fresh stand_ins) l b

  E-laid : (l : List ℕ) → Begins l (contents E) → laid S (hear_partners fresh) l ≡ E
  unfolding exchange_packets
  E-laid l b = laid-back _ S (λ j i. laws.exchange-length _ _ _ _) (hear_partners fresh) l b

  partners-laid : partners_lying s fresh helpers stand_ins (contents R) ≡ partner_packets s area fresh helpers stand_ins
  unfolding partners_lying partner_packets
  partners-laid =
      ap₂ {C = List Packet} (λ (x y : List Packet). x ++ y)
      (ap (λ (x : ℕ). laid S (hear_helpers (stand_ins_each s fresh) fresh stand_ins) (drop x (contents R))) place-h
      ∙ T-laid (drop (length (contents H)) (contents R)) (begins-left (contents T) (contents E) (drop (length (contents H)) (contents R)) b-te))
      (ap (λ (x : ℕ). laid S (hear_partners fresh) (drop x (contents R))) place-t ∙ E-laid (drop (length (contents H) + length (contents T)) (contents R)) b-e)

  pub shares-lie : (i : ℕ) → share_lying s fresh helpers stand_ins (contents R) i ≡ fresh_share s area fresh helpers stand_ins i
  unfolding share_lying fresh_share
  shares-lie i =
      ap₂ (λ (hs ps : List Packet). finished_share s.sizes s.points (stripe_count s) i (senders_of (sent_to i hs)) (contents (sent_to i hs)) (senders_of (sent_to i ps)) (contents (sent_to i ps)))
      (H-laid (contents R) b-h) partners-laid
