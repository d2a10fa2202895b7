-- Laws of packet lists: who hears whom, what is in the packets, and how much.
use Prim.Native.Nat.{ℕ, zero, suc, ◌+◌, ◌*◌, ◌≤◌, ◌<◌}
use mathlib.Core.Path.{◌≡◌, refl, sym, ◌∙◌, ap, ap₂, subst}
use mathlib.Core.Bool.{Bool, true, false}
use mathlib.Core.List.{List, [], ◌∷◌, ◌++◌, map, append-nil, append_assoc}
use native.Mathlib.Omega.{arith}
use native.Mathlib.Nat.{zero-mul, suc-mul, zero-add}
use lib.Dec.{eqb}
use lib.ListN.{length, take, drop, get_or, length-append, length-drop, length-map}
use lib.Seq.{length-take-le, drop-drop}
use borrow.Author.Tests.{eqb-true, eq-eqb, ne_eqb}
use Rattle.lists.specs.Lists.{tabulate, concat, joined, piece, without, All}
use Rattle.lists.specs.Tests.{pick, among, different, every}
use Rattle.lists.proofs.Alls.{all-at, take-alls, drop-alls}
use Rattle.lists.proofs.Boards.{different-cons, get_d-among}
use Rattle.lists.proofs.Pieces.{length-tabulate, tabulate-at, tabulate-ext, map-append, piece-zero, piece-suc}
use Rattle.lists.proofs.Put.{part_end}
use Rattle.lists.proofs.Tests.{true-false, every-all}
use Rattle.store_spec.specs.Packets.{Packet, Hearing, packets_of, senders_of, contents, total, hear_helpers, hear_named, hear_partners, sent_to}

-- ---- packets of one hearing

mail : (ℕ → ℕ → List ℕ) → ℕ → List ℕ → List Packet
mail f m l = map (λ j. record { sender = j; receiver = m; bytes = f j m }) l

pub to-append : (i : ℕ) (ps qs : List Packet) → sent_to i (ps ++ qs) ≡ sent_to i ps ++ sent_to i qs
to-append i [] qs = refl
to-append i (p ∷ ps) qs = go (eqb p.receiver i) (to-append i ps qs)
  where
    go : (t : Bool) → sent_to i (ps ++ qs) ≡ sent_to i ps ++ sent_to i qs
        → pick t (p ∷ []) [] ++ sent_to i (ps ++ qs) ≡ pick t (p ∷ []) [] ++ sent_to i ps ++ sent_to i qs
    go true e = ap (λ (l : List Packet). p ∷ l) e
    go false e = e

module _ (f : ℕ → ℕ → List ℕ) where
  to-mine : (i m : ℕ) (l : List ℕ) → eqb m i ≡ true → sent_to i (mail f m l) ≡ mail f m l
  unfolding mail
  to-mine i m [] e = refl
  to-mine i m (x ∷ l) e = rw e (ap (λ (t : List Packet). record { sender = x; receiver = m; bytes = f x m } ∷ t) (to-mine i m l e))

  to-others : (i m : ℕ) (l : List ℕ) → eqb m i ≡ false → sent_to i (mail f m l) ≡ []
  unfolding mail
  to-others i m [] e = refl
  to-others i m (x ∷ l) e = rw e (to-others i m l e)

  senders-mail : (m : ℕ) (l : List ℕ) → senders_of (mail f m l) ≡ l
  unfolding mail
  senders-mail m [] = refl
  senders-mail m (x ∷ l) = ap (λ (t : List ℕ). x ∷ t) (senders-mail m l)

-- ---- each board hears its own senders_of

abbrev pub receivers : List Hearing → List ℕ
receivers hs = map (λ h. h.receiver) hs

abbrev pub EachHears : (ℕ → List ℕ → Type 0) → List Hearing → Type 0
EachHears P [] = Unit
EachHears P (h ∷ hs) = P h.receiver h.senders × EachHears P hs

module _ (f : ℕ → ℕ → List ℕ) where
  to_none : (i : ℕ) (hs : List Hearing) → among (receivers hs) i ≡ false → sent_to i (packets_of f hs) ≡ []
  unfolding mail
  to_none i [] e = refl
  to_none i (h ∷ hs) e = go (eqb h.receiver i) refl e (λ k. to_none i hs k)
    where
      go : (t : Bool) → eqb h.receiver i ≡ t → pick t true (among (receivers hs) i) ≡ false
          → (among (receivers hs) i ≡ false → sent_to i (packets_of f hs) ≡ []) → sent_to i (mail f h.receiver h.senders ++ packets_of f hs) ≡ []
      go true q k ih = absurd (true-false refl k)
      go false q k ih = to-append i (mail f h.receiver h.senders) (packets_of f hs) ∙ rw (to-others f i h.receiver h.senders q) (ih k)

  -- what holds of each hearing holds of what a board is sent
  pub heard : (P : ℕ → List ℕ → Type 0) (hs : List Hearing) (i : ℕ) → EachHears P hs → different (receivers hs) ≡ true → among (receivers hs) i ≡ true
      → P i (senders_of (sent_to i (packets_of f hs)))
  unfolding mail
  heard P [] i a d e = absurd (true-false e refl)
  heard P (h ∷ hs) i a d e =
      go (eqb h.receiver i) refl e (λ k. heard P hs i a.1 (different-cons h.receiver (receivers hs) d).1 k)
    where
      go : (t : Bool) → eqb h.receiver i ≡ t → pick t true (among (receivers hs) i) ≡ true
          → (among (receivers hs) i ≡ true → P i (senders_of (sent_to i (packets_of f hs))))
          → P i (senders_of (sent_to i (mail f h.receiver h.senders ++ packets_of f hs)))
      go true q k ih =
          let r : h.receiver ≡ i = eqb-true h.receiver i q in
          let n : among (receivers hs) i ≡ false =
          subst (λ (x : ℕ). among (receivers hs) x ≡ false) r (different-cons h.receiver (receivers hs) d).0 in
          rw (to-append i (mail f h.receiver h.senders) (packets_of f hs), to-mine f i h.receiver h.senders q, to_none i hs n, append-nil, senders-mail f h.receiver h.senders)
          (subst (λ (x : ℕ). P x h.senders) r a.0)
      go false q k ih = rw (to-append i (mail f h.receiver h.senders) (packets_of f hs), to-others f i h.receiver h.senders q) (ih k)

-- ---- what a packet holds

abbrev pub Holding : (ℕ → ℕ → List ℕ) → List Packet → Type 0
Holding f [] = Unit
Holding f (p ∷ ps) = (p.bytes ≡ f p.sender p.receiver) × Holding f ps

module _ (f : ℕ → ℕ → List ℕ) where
  pub holding-append : (ps qs : List Packet) → Holding f ps → Holding f qs → Holding f (ps ++ qs)
  holding-append [] qs a b = b
  holding-append (p ∷ ps) qs a b = (a.0, holding-append ps qs a.1 b)

  holding-mail : (m : ℕ) (l : List ℕ) → Holding f (mail f m l)
  unfolding mail
  holding-mail m [] = tt
  holding-mail m (x ∷ l) = (refl, holding-mail m l)

  pub holding : (hs : List Hearing) → Holding f (packets_of f hs)
  unfolding mail
  holding [] = tt
  holding (h ∷ hs) = holding-append (mail f h.receiver h.senders) (packets_of f hs) (holding-mail h.receiver h.senders) (holding hs)

  holding-to : (i : ℕ) (ps : List Packet) → Holding f ps → contents (sent_to i ps) ≡ joined (λ j. f j i) (senders_of (sent_to i ps))
  holding-to i [] a = refl
  holding-to i (p ∷ ps) a = go (eqb p.receiver i) refl (holding-to i ps a.1)
    where
      go : (t : Bool) → eqb p.receiver i ≡ t → contents (sent_to i ps) ≡ joined (λ j. f j i) (senders_of (sent_to i ps))
          → contents (pick t (p ∷ []) [] ++ sent_to i ps) ≡ joined (λ j. f j i) (senders_of (pick t (p ∷ []) [] ++ sent_to i ps))
      go true q ih =
          let r : p.bytes ≡ f p.sender i = a.0 ∙ ap (f p.sender) (eqb-true p.receiver i q) in
          cc
      go false q ih = ih

  -- the packets sent to a board are its sendersOf'
  pub contents-to : (i : ℕ) (hs : List Hearing) → contents (sent_to i (packets_of f hs)) ≡ joined (λ j. f j i) (senders_of (sent_to i (packets_of f hs)))
  contents-to i hs = holding-to i (packets_of f hs) (holding hs)

-- ---- how much is sent

abbrev pub Wide : ℕ → List Packet → Type 0
Wide w [] = Unit
Wide w (p ∷ ps) = (length p.bytes ≡ w) × Wide w ps

module _ (w : ℕ) where
  pub total-wide : (ps : List Packet) → Wide w ps → total ps ≡ length ps * w
  total-wide [] a = sym (zero-mul w)
  total-wide (p ∷ ps) a =
      let e = a.0 in
      let ih : total ps ≡ length ps * w = total-wide ps a.1 in
      rw (e, ih, suc-mul) (omega arith)

  wide-to : (i : ℕ) (ps : List Packet) → Wide w ps → Wide w (sent_to i ps)
  wide-to i [] a = tt
  wide-to i (p ∷ ps) a = go (eqb p.receiver i) (wide-to i ps a.1)
    where
      go : (t : Bool) → Wide w (sent_to i ps) → Wide w (pick t (p ∷ []) [] ++ sent_to i ps)
      go true b = (a.0, b)
      go false b = b

  pub wide-holding : (f : ℕ → ℕ → List ℕ) → ((j i : ℕ) → length (f j i) ≡ w) → (ps : List Packet) → Holding f ps → Wide w ps
  wide-holding f l [] a = tt
  wide-holding f l (p ∷ ps) a = (ap length a.0 ∙ l p.sender p.receiver, wide-holding f l ps a.1)

pub total-append : (ps qs : List Packet) → total (ps ++ qs) ≡ total ps + total qs
total-append [] qs = sym (zero-add (total qs))
total-append (p ∷ ps) qs = rw (total-append ps qs) (omega arith)

pub total-to-append : (i : ℕ) (ps qs : List Packet) → total (sent_to i (ps ++ qs)) ≡ total (sent_to i ps) + total (sent_to i qs)
total-to-append i ps qs = ap total (to-append i ps qs) ∙ total-append (sent_to i ps) (sent_to i qs)

pub packet-count : (f : ℕ → ℕ → List ℕ) (c : ℕ) (hs : List Hearing) → EachHears (λ i l. length l ≡ c) hs → length (packets_of f hs) ≡ length hs * c
packet-count f c [] a = sym (zero-mul c)
packet-count f c (h ∷ hs) a =
    let e = a.0 in
    length-append (map (λ j. record { sender = j; receiver = h.receiver; bytes = f j h.receiver }) h.senders) (packets_of f hs)
    ∙ rw (length-map, e, packet-count f c hs a.1, suc-mul) (omega arith)

module _ (f : ℕ → ℕ → List ℕ) (w : ℕ) (long : (j i : ℕ) → length (f j i) ≡ w) (hs : List Hearing) where
  -- the bytes sent to a board
  pub total-to : (i : ℕ) → total (sent_to i (packets_of f hs)) ≡ length (senders_of (sent_to i (packets_of f hs))) * w
  total-to i =
      total-wide w (sent_to i (packets_of f hs)) (wide-to w i (packets_of f hs) (wide-holding w f long (packets_of f hs) (holding f hs)))
      ∙ ap (λ (x : ℕ). x * w) (sym (length-map (sent_to i (packets_of f hs)) (λ p. p.sender)))

  -- all bytes
  pub total-all : (c : ℕ) → EachHears (λ i l. length l ≡ c) hs → total (packets_of f hs) ≡ length hs * c * w
  total-all c a =
      total-wide w (packets_of f hs) (wide-holding w f long (packets_of f hs) (holding f hs))
      ∙ ap (λ (x : ℕ). x * w) (packet-count f c hs a)

-- ---- the two rounds of a repair

pub receivers-helpers : (d : ℕ) (fresh helpers : List ℕ) → receivers (hear_helpers d fresh helpers) ≡ fresh
receivers-helpers d [] helpers = refl
receivers-helpers d (i ∷ fresh) helpers = ap (λ (l : List ℕ). i ∷ l) (receivers-helpers d fresh (drop d helpers))

pub length-helpers : (d : ℕ) (fresh helpers : List ℕ) → length (hear_helpers d fresh helpers) ≡ length fresh
length-helpers d [] helpers = refl
length-helpers d (i ∷ fresh) helpers = ap suc (length-helpers d fresh (drop d helpers))

pub helpers-count : (d : ℕ) (fresh helpers : List ℕ) → length helpers ≡ length fresh * d
    → EachHears (λ i l. length l ≡ d) (hear_helpers d fresh helpers)
helpers-count d [] helpers e = tt
helpers-count d (i ∷ fresh) helpers e =
    let e2 : length helpers ≡ length fresh * d + d = e ∙ suc-mul (length fresh) d in
    (length-take-le d helpers (omega arith), helpers-count d fresh (drop d helpers) (length-drop d helpers ∙ omega arith))

pub helpers-each : (Q : ℕ → Type 0) (d : ℕ) (fresh helpers : List ℕ) → All Q helpers
    → EachHears (λ i l. All Q l) (hear_helpers d fresh helpers)
helpers-each Q d [] helpers a = tt
helpers-each Q d (i ∷ fresh) helpers a = (take-alls Q d helpers a, helpers-each Q d fresh (drop d helpers) (drop-alls Q d helpers a))

module _ (all : List ℕ) where
  receivers-part : (l : List ℕ) → receivers (map (λ i. record { receiver = i; senders = without i all }) l) ≡ l
  receivers-part [] = refl
  receivers-part (i ∷ l) = ap (λ (t : List ℕ). i ∷ t) (receivers-part l)

  partners-part : (P : ℕ → List ℕ → Type 0) (l : List ℕ) → All (λ i. P i (without i all)) l
      → EachHears P (map (λ i. record { receiver = i; senders = without i all }) l)
  partners-part P [] a = tt
  partners-part P (i ∷ l) a = (a.0, partners-part P l a.1)

pub receivers-partners : (fresh : List ℕ) → receivers (hear_partners fresh) ≡ fresh
receivers-partners fresh = receivers-part fresh fresh

pub partners-each : (P : ℕ → List ℕ → Type 0) (fresh : List ℕ) → All (λ i. P i (without i fresh)) fresh → EachHears P (hear_partners fresh)
partners-each P fresh a = partners-part fresh P fresh a

-- ---- for code: the a-th fresh board hears the a-th run of d helpers

pub heard-run : (f : ℕ → ℕ → List ℕ) (d : ℕ) (fresh helpers : List ℕ) → different fresh ≡ true → (a : ℕ) → a < length fresh
    → senders_of (sent_to (get_or fresh a 0) (packets_of f (hear_helpers d fresh helpers))) ≡ take d (drop (a * d) helpers)
unfolding mail
heard-run f d [] helpers e a h = absurd (omega arith)
heard-run f d (i ∷ fresh) helpers e zero h =
    let n : among (receivers (hear_helpers d fresh (drop d helpers))) i ≡ false =
    ap (λ (l : List ℕ). among l i) (receivers-helpers d fresh (drop d helpers)) ∙ (different-cons i fresh e).0 in
    let z : zero * d ≡ zero = zero-mul d in
    ap senders_of (to-append i (mail f i (take d helpers)) (packets_of f (hear_helpers d fresh (drop d helpers))))
    ∙ (rw (to-mine f i i (take d helpers) (eq-eqb i i refl), to_none f i (hear_helpers d fresh (drop d helpers)) n, append-nil, senders-mail f i (take d helpers), z) refl)
heard-run f d (i ∷ fresh) helpers e (suc a) h =
    let x : ℕ = get_or fresh a 0 in
    let p : among fresh x ≡ true = get_d-among fresh a (omega arith) in
    let o : eqb i x ≡ false = ne_eqb i x (λ q. true-false p (subst (λ (y : ℕ). among fresh y ≡ false) q (different-cons i fresh e).0)) in
    let ih : senders_of (sent_to x (packets_of f (hear_helpers d fresh (drop d helpers)))) ≡ take d (drop (a * d) (drop d helpers)) =
    heard-run f d fresh (drop d helpers) (different-cons i fresh e).1 a (omega arith) in
    let q : d + a * d ≡ suc a * d = omega arith in
    ap senders_of (to-append x (mail f i (take d helpers)) (packets_of f (hear_helpers d fresh (drop d helpers))))
    ∙ (rw (to-others f x i (take d helpers) o) ih)
    ∙ ap (take d) (drop-drop (a * d) d helpers ∙ ap (λ (y : ℕ). drop y helpers) q)

-- ---- all boards named for one fresh board

-- a place of a board in a list
place : (l : List ℕ) (i : ℕ) → among l i ≡ true → (a : ℕ) × (a < length l) × (get_or l a 0 ≡ i)
place [] i e = absurd (true-false e refl)
place (x ∷ l) i e = go (eqb x i) refl e (place l i)
  where
    go : (t : Bool) → eqb x i ≡ t → pick t true (among l i) ≡ true → (among l i ≡ true → (a : ℕ) × (a < length l) × (get_or l a 0 ≡ i))
        → (a : ℕ) × (a < length (x ∷ l)) × (get_or (x ∷ l) a 0 ≡ i)
    go true q k ih = (0, omega arith, eqb-true x i q)
    go false q k ih = let p = ih k in (suc p.0, (let h = p.1 in omega arith), p.2)

-- what holds of each fresh board with its two runs holds of it with those that it hears
module _ (f g : ℕ → ℕ → List ℕ) (d e : ℕ) (fresh helpers stand_ins : List ℕ) (once : different fresh ≡ true) where
  pub by_runs : (P : ℕ → List ℕ → List ℕ → Type 0)
      → ((a : ℕ) → a < length fresh → P (get_or fresh a 0) (take d (drop (a * d) helpers)) (take e (drop (a * e) stand_ins)))
      → (i : ℕ) → among fresh i ≡ true
      → P i (senders_of (sent_to i (packets_of f (hear_helpers d fresh helpers)))) (senders_of (sent_to i (packets_of g (hear_helpers e fresh stand_ins))))
  by_runs P all i in-it =
      let p = place fresh i in-it in
      let a : ℕ = p.0 in
      let x = heard-run f d fresh helpers once a p.1 in
      let y = heard-run g e fresh stand_ins once a p.1 in
      subst
      (λ (j : ℕ). P j (senders_of (sent_to j (packets_of f (hear_helpers d fresh helpers)))) (senders_of (sent_to j (packets_of g (hear_helpers e fresh stand_ins)))))
      p.2
      (rw (x, y) (all a p.1))

-- the two runs of each, by places
pub runs-different : (d e : ℕ) (fresh helpers stand_ins : List ℕ)
    → every (λ h. different h.senders) (hear_named d e fresh helpers stand_ins)
    ≡ every different (tabulate (length fresh) (λ a. piece d a helpers ++ piece e a stand_ins))
runs-different d e [] helpers stand_ins = refl
runs-different d e (i ∷ fresh) helpers stand_ins =
    let q : take d helpers ++ take e stand_ins ≡ piece d 0 helpers ++ piece e 0 stand_ins =
    ap₂ {C = List ℕ} (λ x y. x ++ y) (sym (piece-zero d helpers)) (sym (piece-zero e stand_ins)) in
    let t : tabulate (length fresh) (λ a. piece d a (drop d helpers) ++ piece e a (drop e stand_ins))
    ≡ tabulate (length fresh) (λ a. piece d (suc a) helpers ++ piece e (suc a) stand_ins) =
    tabulate-ext (length fresh) _ _
    (λ a h. ap₂ {C = List ℕ} (λ x y. x ++ y) (sym (piece-suc d a helpers)) (sym (piece-suc e a stand_ins))) in
    ap₂ (λ (x y : Bool). pick x y false) (ap different q) (runs-different d e fresh (drop d helpers) (drop e stand_ins) ∙ ap (every different) t)

pub run-different : (d e : ℕ) (fresh helpers stand_ins : List ℕ)
    → every (λ h. different h.senders) (hear_named d e fresh helpers stand_ins) ≡ true
    → (a : ℕ) → a < length fresh → different (take d (drop (a * d) helpers) ++ take e (drop (a * e) stand_ins)) ≡ true
unfolding piece
run-different d e fresh helpers stand_ins h a k =
    let l : List (List ℕ) = tabulate (length fresh) (λ a. piece d a helpers ++ piece e a stand_ins) in
    let n : length l ≡ length fresh = length-tabulate (length fresh) (λ a. piece d a helpers ++ piece e a stand_ins) in
    ap different (sym (tabulate-at (length fresh) (λ a. piece d a helpers ++ piece e a stand_ins) [] a k))
    ∙ all-at (λ x. different x ≡ true) [] l (every-all different l (sym (runs-different d e fresh helpers stand_ins) ∙ h)) a (omega arith)

-- one of the runs, of a list with a run for each of so many
pub run_length : (d a t : ℕ) (l : List ℕ) → length l ≡ t * d → a < t → length (take d (drop (a * d) l)) ≡ d
run_length d a t l e h =
    let k : a * d + d ≤ t * d = part_end a d t h in
    length-take-le d (drop (a * d) l) (simp length-drop (omega arith))

-- ---- packets of two lists

pub concat-append : (xs ys : List (List ℕ)) → concat (xs ++ ys) ≡ concat xs ++ concat ys
concat-append [] ys = refl
concat-append (x ∷ xs) ys = ap (λ (l : List ℕ). x ++ l) (concat-append xs ys) ∙ sym (append_assoc x (concat xs) (concat ys))

pub joined-append : (f : ℕ → List ℕ) (xs ys : List ℕ) → joined f (xs ++ ys) ≡ joined f xs ++ joined f ys
joined-append f xs ys = ap concat (map-append f xs ys) ∙ concat-append (map f xs) (map f ys)

pub senders-append : (i : ℕ) (ps qs : List Packet) → senders_of (sent_to i (ps ++ qs)) ≡ senders_of (sent_to i ps) ++ senders_of (sent_to i qs)
senders-append i ps qs = ap senders_of (to-append i ps qs) ∙ map-append (λ p. p.sender) (sent_to i ps) (sent_to i qs)

pub contents-append : (i : ℕ) (ps qs : List Packet) → contents (sent_to i (ps ++ qs)) ≡ contents (sent_to i ps) ++ contents (sent_to i qs)
contents-append i ps qs =
    ap contents (to-append i ps qs) ∙ ap concat (map-append (λ p. p.bytes) (sent_to i ps) (sent_to i qs))
    ∙ concat-append (map (λ p. p.bytes) (sent_to i ps)) (map (λ p. p.bytes) (sent_to i qs))
