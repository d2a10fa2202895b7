-- Packets by their number, and those that lie there for the a-th fresh board, over any lists of the right lengths.
-- Assumes nothing.
use Prim.Native.Nat.{ℕ, zero, suc, ◌+◌, ◌-◌, ◌*◌, ◌/◌, ◌%◌, ◌<◌}
use mathlib.Core.Path.{◌≡◌, refl, sym, ◌∙◌, ap, ap₂}
use mathlib.Core.Bool.{true}
use mathlib.Core.List.{List, [], ◌∷◌, map}
use native.Mathlib.Omega.{arith}
use native.Mathlib.Nat.{zero-mul, suc-mul}
use lib.ListN.{length, take, drop, get_or, length-map, get_or-append}
use lib.Seq.{get_or-append-add, get_or-take, get_or-drop}
use Rattle.lists.specs.Tests.{different}
use Rattle.lists.specs.Lists.{piece, without}
use Rattle.lists.proofs.Boards.{length_without, among-all}
use Rattle.store_spec.specs.Packets.{Packet, Hearing, packets_of, contents, senders_of, sent_to, hear_helpers, hear_partners}
use Rattle.beside_spec.specs.Lying.{laid_to, laid, blank}
use Rattle.store_spec.proofs.Packets.{EachHears, receivers-helpers, receivers-partners, length-helpers, helpers-count, partners-each, run_length}
use Rattle.beside_spec.proofs.Laid.{no-hearing, laid-senders, laid-contents, sent-laid, helper-at, partner-at}

-- ---- packet u of the a-th hearing, where each hears c

mail-at : (f : ℕ → ℕ → List ℕ) (i : ℕ) (l : List ℕ) (u : ℕ) → u < length l
    → (get_or (map (λ j. record { sender = j; receiver = i; bytes = f j i }) l) u blank).bytes ≡ f (get_or l u 0) i
mail-at f i [] u h = absurd (omega arith)
mail-at f i (j ∷ l) zero h = refl
mail-at f i (j ∷ l) (suc u) h = mail-at f i l u (omega arith)

pub packet-of : (f : ℕ → ℕ → List ℕ) (c : ℕ) (hs : List Hearing) → EachHears (λ i l. length l ≡ c) hs → (a u : ℕ) → a < length hs → u < c
    → (get_or (packets_of f hs) (a * c + u) blank).bytes ≡ f (get_or (get_or hs a no-hearing).senders u 0) (get_or hs a no-hearing).receiver
packet-of f c [] each a u ha hu = absurd (omega arith)
packet-of f c (h ∷ hs) each zero u ha hu =
    let first : List Packet = map (λ j. record { sender = j; receiver = h.receiver; bytes = f j h.receiver }) h.senders in
    let n : length first ≡ c = length-map h.senders (λ j. record { sender = j; receiver = h.receiver; bytes = f j h.receiver }) ∙ each.0 in
    let e : zero * c + u ≡ u = ap (λ (m : ℕ). m + u) (zero-mul c) ∙ omega arith in
    ap (λ (m : ℕ). (get_or (packets_of f (h ∷ hs)) m blank).bytes) e
    ∙ ap (λ (p : Packet). p.bytes) (get_or-append first (packets_of f hs) blank u (omega (arith, n, hu)))
    ∙ mail-at f h.receiver h.senders u (omega (arith, each.0, hu))
packet-of f c (h ∷ hs) each (suc a) u ha hu =
    let first : List Packet = map (λ j. record { sender = j; receiver = h.receiver; bytes = f j h.receiver }) h.senders in
    let n : length first ≡ c = length-map h.senders (λ j. record { sender = j; receiver = h.receiver; bytes = f j h.receiver }) ∙ each.0 in
    let e : suc a * c + u ≡ length first + (a * c + u) = omega (arith, suc-mul a c, n) in
    ap (λ (m : ℕ). (get_or (packets_of f (h ∷ hs)) m blank).bytes) e
    ∙ ap (λ (p : Packet). p.bytes) (get_or-append-add first (packets_of f hs) (a * c + u) blank)
    ∙ packet-of f c hs each.1 a u (omega arith) hu

-- ---- a run of boards for each fresh one

pub run-packet : (f : ℕ → ℕ → List ℕ) (c : ℕ) (fresh boards : List ℕ) → length boards ≡ length fresh * c → (a u : ℕ) → a < length fresh → u < c
    → (get_or (packets_of f (hear_helpers c fresh boards)) (a * c + u) blank).bytes ≡ f (get_or boards (a * c + u) 0) (get_or fresh a 0)
run-packet f c fresh boards n a u ha hu =
    let k = helper-at c fresh boards a ha in
    packet-of f c (hear_helpers c fresh boards) (helpers-count c fresh boards n) a u (omega (arith, length-helpers c fresh boards, ha)) hu
    ∙ ap₂ f (ap (λ (l : List ℕ). get_or l u 0) k.1 ∙ get_or-take c (drop (a * c) boards) u 0 hu ∙ get_or-drop (a * c) boards u 0) k.0

module _ (fresh : List ℕ) (once : different fresh ≡ true) where
  sent-run : (w c : ℕ) (boards bytes : List ℕ) → length boards ≡ length fresh * c → (a : ℕ) → a < length fresh
      → sent_to (get_or fresh a 0) (laid w (hear_helpers c fresh boards) bytes) ≡ laid_to w (get_or fresh a 0) (take c (drop (a * c) boards)) (drop (a * (c * w)) bytes)
  sent-run w c boards bytes n a h =
      let k = helper-at c fresh boards a h in
      let x = sent-laid w c (hear_helpers c fresh boards) bytes (helpers-count c fresh boards n) (ap different (receivers-helpers c fresh boards) ∙ once) a
      (omega (arith, length-helpers c fresh boards, h)) in
      ap (λ (i : ℕ). sent_to i (laid w (hear_helpers c fresh boards) bytes)) (sym k.0) ∙ x ∙ ap₂ (λ (i : ℕ) (l : List ℕ). laid_to w i l (drop (a * (c * w)) bytes)) k.0 k.1

  pub run-senders : (w c : ℕ) (boards bytes : List ℕ) → length boards ≡ length fresh * c → (a : ℕ) → a < length fresh
      → senders_of (sent_to (get_or fresh a 0) (laid w (hear_helpers c fresh boards) bytes)) ≡ piece c a boards
  unfolding piece
  run-senders w c boards bytes n a h =
      ap senders_of (sent-run w c boards bytes n a h) ∙ laid-senders w (get_or fresh a 0) (take c (drop (a * c) boards)) (drop (a * (c * w)) bytes)

  pub run-contents : (w c : ℕ) (boards bytes : List ℕ) → length boards ≡ length fresh * c → (a : ℕ) → a < length fresh
      → contents (sent_to (get_or fresh a 0) (laid w (hear_helpers c fresh boards) bytes)) ≡ piece (c * w) a bytes
  unfolding piece
  run-contents w c boards bytes n a h =
      ap contents (sent-run w c boards bytes n a h) ∙ laid-contents w (get_or fresh a 0) (take c (drop (a * c) boards)) (drop (a * (c * w)) bytes)
      ∙ ap (λ (x : ℕ). take (x * w) (drop (a * (c * w)) bytes)) (run_length c a (length fresh) boards n h)

  -- ---- the other fresh boards

  others-each : EachHears (λ i l. length l ≡ length fresh - 1) (hear_partners fresh)
  others-each =
      partners-each (λ i l. length l ≡ length fresh - 1) fresh
      (among-all (λ i. length (without i fresh) ≡ length fresh - 1) fresh (λ i e. let n = length_without i fresh once e in omega arith))

  others-count : length (hear_partners fresh) ≡ length fresh
  others-count = length-map fresh (λ i. record { receiver = i; senders = without i fresh })

  pub others-packet : (f : ℕ → ℕ → List ℕ) (a u : ℕ) → a < length fresh → u < length fresh - 1
      → (get_or (packets_of f (hear_partners fresh)) (a * (length fresh - 1) + u) blank).bytes ≡ f (get_or (without (get_or fresh a 0) fresh) u 0) (get_or fresh a 0)
  others-packet f a u ha hu =
      let k = partner-at fresh a ha in
      packet-of f (length fresh - 1) (hear_partners fresh) others-each a u (omega (arith, others-count, ha)) hu ∙ ap₂ f (ap (λ (l : List ℕ). get_or l u 0) k.1) k.0

  sent-others : (w : ℕ) (bytes : List ℕ) (a : ℕ) → a < length fresh
      → sent_to (get_or fresh a 0) (laid w (hear_partners fresh) bytes)
      ≡ laid_to w (get_or fresh a 0) (without (get_or fresh a 0) fresh) (drop (a * ((length fresh - 1) * w)) bytes)
  sent-others w bytes a h =
      let k = partner-at fresh a h in
      let x = sent-laid w (length fresh - 1) (hear_partners fresh) bytes others-each (ap different (receivers-partners fresh) ∙ once) a (omega (arith, others-count, h)) in
      ap (λ (i : ℕ). sent_to i (laid w (hear_partners fresh) bytes)) (sym k.0) ∙ x
      ∙ ap₂ (λ (i : ℕ) (l : List ℕ). laid_to w i l (drop (a * ((length fresh - 1) * w)) bytes)) k.0 k.1

  pub others-senders : (w : ℕ) (bytes : List ℕ) (a : ℕ) → a < length fresh
      → senders_of (sent_to (get_or fresh a 0) (laid w (hear_partners fresh) bytes)) ≡ without (get_or fresh a 0) fresh
  others-senders w bytes a h =
      ap senders_of (sent-others w bytes a h) ∙ laid-senders w (get_or fresh a 0) (without (get_or fresh a 0) fresh) (drop (a * ((length fresh - 1) * w)) bytes)

  pub others-contents : (w : ℕ) (bytes : List ℕ) (a : ℕ) → a < length fresh
      → contents (sent_to (get_or fresh a 0) (laid w (hear_partners fresh) bytes)) ≡ piece ((length fresh - 1) * w) a bytes
  unfolding piece
  others-contents w bytes a h =
      let i : ℕ = get_or fresh a 0 in
      let n : length (without i fresh) ≡ length fresh - 1 = let q = length_without i fresh once (Rattle.lists.proofs.Boards.get_d-among fresh a h) in omega arith in
      ap contents (sent-others w bytes a h) ∙ laid-contents w i (without i fresh) (drop (a * ((length fresh - 1) * w)) bytes)
      ∙ ap (λ (x : ℕ). take (x * w) (drop (a * ((length fresh - 1) * w)) bytes)) n

-- ---- places of a number among parts of one width

pub in-part : (p t c : ℕ) → p < t * c → (p / c < t) × (p % c < c)
in-part p t c h =
    let k : 0 < c = pos c t p h in
    ((native.Mathlib.Nat.div-lt_iff_lt-mul {x = p} {y = t} k).1 h, native.Mathlib.Nat.mod-lt p k)
  where
    pos : (c t p : ℕ) → p < t * c → 0 < c
    pos zero t p h = absurd (omega arith)
    pos (suc c) t p h = omega arith

pub of_part : (p c : ℕ) → p / c * c + p % c ≡ p
of_part p c = native.Mathlib.Nat.div-add-mod' p c
