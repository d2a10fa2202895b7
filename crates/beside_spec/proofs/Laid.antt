-- The packets that lie in a packet area, by places.
-- Assumes nothing.
use Prim.Native.Nat.{ℕ, zero, suc, ◌+◌, ◌*◌, ◌<◌}
use mathlib.Core.Path.{◌≡◌, refl, sym, ◌∙◌, ap, ap₂, subst}
use mathlib.Core.Bool.{Bool, true, false}
use mathlib.Core.List.{List, [], ◌∷◌, ◌++◌, map, append-nil}
use native.Mathlib.Omega.{arith}
use native.Mathlib.Nat.{suc-mul, zero-mul}
use lib.Dec.{ltb, eqb}
use lib.ListN.{length, take, drop, get_or, length-map, get_or-map, get_or-append}
use lib.Seq.{take-add, take-take, drop-drop, drop_at, get_or-drop}
use borrow.Author.Tests.{eq-eqb, ne_eqb, ltb-true, ltb-false, lt-ltb, le-ltb}
use Rattle.lists.specs.Lists.{without}
use Rattle.lists.specs.Tests.{pick, among, different}
use Rattle.lists.proofs.Boards.{different-cons, get_d-among, without-none}
use Rattle.lists.proofs.Put.{within}
use Rattle.lists.proofs.Tests.{true-false}
use Rattle.store_spec.specs.Packets.{Packet, Hearing, packets_of, contents, senders_of, sent_to, hear_helpers, hear_partners}
use Rattle.beside_spec.specs.Lying.{laid_to, laid, blank}
use Rattle.store_spec.proofs.Packets.{EachHears, receivers, to-append}

-- ---- packets of one hearing

pub laid-senders : (w i : ℕ) (js bytes : List ℕ) → senders_of (laid_to w i js bytes) ≡ js
laid-senders w i [] bytes = refl
laid-senders w i (j ∷ js) bytes = ap (λ (l : List ℕ). j ∷ l) (laid-senders w i js (drop w bytes))

pub laid-contents : (w i : ℕ) (js bytes : List ℕ) → contents (laid_to w i js bytes) ≡ take (length js * w) bytes
laid-contents w i [] bytes = ap (λ (m : ℕ). take m bytes) (sym (zero-mul w))
laid-contents w i (j ∷ js) bytes =
    ap (λ (l : List ℕ). take w bytes ++ l) (laid-contents w i js (drop w bytes))
    ∙ sym (take-add w (length js * w) bytes)
    ∙ ap (λ (m : ℕ). take m bytes) (let e : w + length js * w ≡ suc (length js) * w = omega (arith, suc-mul (length js) w) in e)

to-mine : (w i m : ℕ) (js bytes : List ℕ) → eqb m i ≡ true → sent_to i (laid_to w m js bytes) ≡ laid_to w m js bytes
to-mine w i m [] bytes e = refl
to-mine w i m (j ∷ js) bytes e = rw e (ap (λ (l : List Packet). record { sender = j; receiver = m; bytes = take w bytes } ∷ l) (to-mine w i m js (drop w bytes) e))

to-others : (w i m : ℕ) (js bytes : List ℕ) → eqb m i ≡ false → sent_to i (laid_to w m js bytes) ≡ []
to-others w i m [] bytes e = refl
to-others w i m (j ∷ js) bytes e = rw e (to-others w i m js (drop w bytes) e)

to_none : (w i : ℕ) (hs : List Hearing) (bytes : List ℕ) → among (receivers hs) i ≡ false → sent_to i (laid w hs bytes) ≡ []
to_none w i [] bytes e = refl
to_none w i (h ∷ hs) bytes e = go (eqb h.receiver i) refl e (λ k. to_none w i hs (drop (length h.senders * w) bytes) k)
  where
    go : (t : Bool) → eqb h.receiver i ≡ t → pick t true (among (receivers hs) i) ≡ false
        → (among (receivers hs) i ≡ false → sent_to i (laid w hs (drop (length h.senders * w) bytes)) ≡ [])
        → sent_to i (laid_to w h.receiver h.senders bytes ++ laid w hs (drop (length h.senders * w) bytes)) ≡ []
    go true q k ih = absurd (true-false refl k)
    go false q k ih =
        to-append i (laid_to w h.receiver h.senders bytes) (laid w hs (drop (length h.senders * w) bytes)) ∙ rw (to-others w i h.receiver h.senders bytes q) (ih k)

-- ---- those of the a-th hearing

abbrev pub no-hearing : Hearing
no-hearing = record { receiver = 0; senders = [] }

pub sent-laid : (w c : ℕ) (hs : List Hearing) (bytes : List ℕ) → EachHears (λ i l. length l ≡ c) hs → different (receivers hs) ≡ true → (a : ℕ) → a < length hs
    → let h = get_or hs a no-hearing in sent_to h.receiver (laid w hs bytes) ≡ laid_to w h.receiver h.senders (drop (a * (c * w)) bytes)
sent-laid w c [] bytes each once a k = absurd (omega arith)
sent-laid w c (h ∷ hs) bytes each once zero k =
    let rest : List ℕ = drop (length h.senders * w) bytes in
    to-append h.receiver (laid_to w h.receiver h.senders bytes) (laid w hs rest)
    ∙ rw (
      to-mine w h.receiver h.receiver h.senders bytes (eq-eqb h.receiver h.receiver refl),
      to_none w h.receiver hs rest (different-cons h.receiver (receivers hs) once).0,
      append-nil,
    )
    (ap (λ (m : ℕ). laid_to w h.receiver h.senders (drop m bytes)) (sym (zero-mul (c * w))))
sent-laid w c (h ∷ hs) bytes each once (suc a) k =
    let g : Hearing = get_or hs a no-hearing in
    let rest : List ℕ = drop (length h.senders * w) bytes in
    let ih = sent-laid w c hs rest each.1 (different-cons h.receiver (receivers hs) once).1 a (omega arith) in
    let r : get_or (receivers hs) a 0 ≡ g.receiver = get_or-map (λ (x : Hearing). x.receiver) hs a no-hearing in
    let there : among (receivers hs) g.receiver ≡ true = subst (λ (x : ℕ). among (receivers hs) x ≡ true) r
    (get_d-among (receivers hs) a (omega (arith, length-map hs (λ (x : Hearing). x.receiver)))) in
    let o : eqb h.receiver g.receiver ≡ false =
    ne_eqb h.receiver g.receiver (λ q. true-false there (subst (λ (x : ℕ). among (receivers hs) x ≡ false) q (different-cons h.receiver (receivers hs) once).0)) in
    let p : length h.senders * w + a * (c * w) ≡ suc a * (c * w) = ap (λ (x : ℕ). x * w + a * (c * w)) each.0 ∙ omega (arith, suc-mul a (c * w)) in
    to-append g.receiver (laid_to w h.receiver h.senders bytes) (laid w hs rest)
    ∙ rw (to-others w g.receiver h.receiver h.senders bytes o)
    (ih ∙ ap (laid_to w g.receiver g.senders) (drop-drop (a * (c * w)) (length h.senders * w) bytes ∙ ap (λ (m : ℕ). drop m bytes) p))

-- the a-th of the two rounds
pub helper-at : (d : ℕ) (fresh helpers : List ℕ) (a : ℕ) → a < length fresh
    → ((get_or (hear_helpers d fresh helpers) a no-hearing).receiver ≡ get_or fresh a 0) × ((get_or (hear_helpers d fresh helpers) a no-hearing).senders ≡ take d (drop (a * d) helpers))
helper-at d [] helpers a k = absurd (omega arith)
helper-at d (i ∷ fresh) helpers zero k = (refl, ap (λ (m : ℕ). take d (drop m helpers)) (sym (zero-mul d)))
helper-at d (i ∷ fresh) helpers (suc a) k =
    let ih = helper-at d fresh (drop d helpers) a (omega arith) in
    let p : d + a * d ≡ suc a * d = omega (arith, suc-mul a d) in
    (ih.0, ih.1 ∙ ap (take d) (drop-drop (a * d) d helpers ∙ ap (λ (m : ℕ). drop m helpers) p))

pub partner-at : (fresh : List ℕ) (a : ℕ) → a < length fresh
    → ((get_or (hear_partners fresh) a no-hearing).receiver ≡ get_or fresh a 0) × ((get_or (hear_partners fresh) a no-hearing).senders ≡ without (get_or fresh a 0) fresh)
partner-at fresh a k = part fresh a k
  where
    part : (l : List ℕ) (a : ℕ) → a < length l
        → let h = get_or (map (λ i. record { receiver = i; senders = without i fresh }) l) a no-hearing in (h.receiver ≡ get_or l a 0) × (h.senders ≡ without (get_or l a 0) fresh)
    part [] a k = absurd (omega arith)
    part (x ∷ l) zero k = (refl, refl)
    part (x ∷ l) (suc a) k = part l a (omega arith)

-- ---- packets by their places

-- in a list of packets and then others: those, and behind them these
pub behind : (ps qs : List Packet) (n i : ℕ) → length ps ≡ n → get_or (ps ++ qs) (n + i) blank ≡ get_or qs i blank
behind ps qs n i e = sym (get_or-drop n (ps ++ qs) i blank) ∙ ap (λ (l : List Packet). get_or l i blank) (drop_at ps qs n e)

one_at : (f : ℕ → ℕ → List ℕ) (i : ℕ) (l : List ℕ) (j : ℕ) → j < length l
    → get_or (map (λ x. record { sender = x; receiver = i; bytes = f x i }) l) j blank ≡ record { sender = get_or l j 0; receiver = i; bytes = f (get_or l j 0) i }
one_at f i [] j h = absurd (omega arith)
one_at f i (x ∷ l) zero h = refl
one_at f i (x ∷ l) (suc j) h = one_at f i l j (omega arith)

-- the j-th packet of the a-th hearing, where each board hears c others
pub packet-at : (f : ℕ → ℕ → List ℕ) (c : ℕ) (hs : List Hearing) → EachHears (λ i l. length l ≡ c) hs → (a j : ℕ) → a < length hs → j < c
    → let h = get_or hs a no-hearing in get_or (packets_of f hs) (a * c + j) blank ≡ record { sender = get_or h.senders j 0; receiver = h.receiver; bytes = f (get_or h.senders j 0) h.receiver }
packet-at f c [] each a j k m = absurd (omega arith)
packet-at f c (h ∷ hs) each zero j k m =
    let mine : List Packet = map (λ x. record { sender = x; receiver = h.receiver; bytes = f x h.receiver }) h.senders in
    let n : length mine ≡ c = length-map h.senders (λ x. record { sender = x; receiver = h.receiver; bytes = f x h.receiver }) ∙ each.0 in
    let z : zero * c + j ≡ j = omega (arith, zero-mul c) in
    ap (λ (q : ℕ). get_or (mine ++ packets_of f hs) q blank) z
    ∙ get_or-append mine (packets_of f hs) blank j (omega (arith, n, m))
    ∙ one_at f h.receiver h.senders j (omega (arith, each.0, m))
packet-at f c (h ∷ hs) each (suc a) j k m =
    let mine : List Packet = map (λ x. record { sender = x; receiver = h.receiver; bytes = f x h.receiver }) h.senders in
    let n : length mine ≡ c = length-map h.senders (λ x. record { sender = x; receiver = h.receiver; bytes = f x h.receiver }) ∙ each.0 in
    let z : suc a * c + j ≡ c + (a * c + j) = omega (arith, suc-mul a c) in
    ap (λ (q : ℕ). get_or (mine ++ packets_of f hs) q blank) z
    ∙ behind mine (packets_of f hs) c (a * c + j) n
    ∙ packet-at f c hs each.1 a j (omega arith) m

-- a list without its a-th board, by places
pub other_at : (l : List ℕ) (a j : ℕ) → different l ≡ true → a < length l → suc j < length l
    → get_or (without (get_or l a 0) l) j 0 ≡ get_or l (pick (ltb j a) j (suc j)) 0
other_at [] a j d h k = absurd (omega arith)
other_at (x ∷ l) zero j d h k =
    rw (eq-eqb x x refl, without-none x l (different-cons x l d).0, le-ltb j zero (omega arith)) refl
other_at (x ∷ l) (suc a) j d h k =
    let y : ℕ = get_or l a 0 in
    let there : among l y ≡ true = get_d-among l a (omega arith) in
    let o : eqb x y ≡ false = ne_eqb x y (λ q. true-false there (subst (λ (z : ℕ). among l z ≡ false) q (different-cons x l d).0)) in
    rw o (go j k (λ i m. other_at l a i (different-cons x l d).1 (omega arith) m))
  where
    go : (j : ℕ) → suc j < length (x ∷ l) → ((i : ℕ) → suc i < length l → get_or (without (get_or l a 0) l) i 0 ≡ get_or l (pick (ltb i a) i (suc i)) 0)
        → get_or (x ∷ without (get_or l a 0) l) j 0 ≡ get_or (x ∷ l) (pick (ltb j (suc a)) j (suc j)) 0
    go zero k ih = rw (lt-ltb zero (suc a) (omega arith)) refl
    go (suc j) k ih = ih j (omega arith) ∙ by (ltb j a) (ltb (suc j) (suc a)) refl refl
      where
        by : (t u : Bool) → ltb j a ≡ t → ltb (suc j) (suc a) ≡ u → get_or l (pick t j (suc j)) 0 ≡ get_or (x ∷ l) (pick u (suc j) (suc (suc j))) 0
        by true true p q = refl
        by false false p q = refl
        by true false p q = absurd (omega (arith, ltb-true j a p, ltb-false (suc j) (suc a) q))
        by false true p q = absurd (omega (arith, ltb-false j a p, ltb-true (suc j) (suc a) q))

-- ---- packets by their first bytes

front-both : (a b : ℕ) (l m : List ℕ) → take (a + b) l ≡ take (a + b) m → (take a l ≡ take a m) × (take b (drop a l) ≡ take b (drop a m))
front-both a b l m h = (
  sym (take-take a (a + b) l (omega arith)) ∙ ap (take a) h ∙ take-take a (a + b) m (omega arith),
  sym (within b (a + b) a l (omega arith)) ∙ ap (λ (x : List ℕ). take b (drop a x)) h ∙ within b (a + b) a m (omega arith),
)

laid_to-front : (w i : ℕ) (js l m : List ℕ) → take (length js * w) l ≡ take (length js * w) m → laid_to w i js l ≡ laid_to w i js m
laid_to-front w i [] l m h = refl
laid_to-front w i (j ∷ js) l m h =
    let e : suc (length js) * w ≡ w + length js * w = omega (arith, suc-mul (length js) w) in
    let f = front-both w (length js * w) l m (ap (λ (x : ℕ). take x l) (sym e) ∙ h ∙ ap (λ (x : ℕ). take x m) e) in
    ap₂ {C = List Packet} (λ (x : List ℕ) (y : List Packet). record { sender = j; receiver = i; bytes = x } ∷ y) f.0 (laid_to-front w i js (drop w l) (drop w m) f.1)

pub laid-front : (w c : ℕ) (hs : List Hearing) (l m : List ℕ) → EachHears (λ i x. length x ≡ c) hs → take (length hs * (c * w)) l ≡ take (length hs * (c * w)) m
    → laid w hs l ≡ laid w hs m
laid-front w c [] l m each h = refl
laid-front w c (x ∷ hs) l m each h =
    let e : suc (length hs) * (c * w) ≡ length x.senders * w + length hs * (c * w) =
    omega (arith, suc-mul (length hs) (c * w)) ∙ ap (λ (y : ℕ). y * w + length hs * (c * w)) (sym each.0) in
    let f = front-both (length x.senders * w) (length hs * (c * w)) l m (ap (λ (y : ℕ). take y l) (sym e) ∙ h ∙ ap (λ (y : ℕ). take y m) e) in
    ap₂ {C = List Packet} (λ (a b : List Packet). a ++ b) (laid_to-front w x.receiver x.senders l m f.0)
    (laid-front w c hs (drop (length x.senders * w) l) (drop (length x.senders * w) m) each.1 f.1)
