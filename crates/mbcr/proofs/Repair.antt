-- Whole shares and packets: lengths, over any bytes; and over true shares, what the packets are and that a finished share is the share.
-- Assumes nothing.
use mathlib.Core.Path.{◌≡◌, refl, sym, ap, ap₂, ◌∙◌}
use mathlib.Core.List.{List, [], ◌∷◌, ◌++◌, map}
use Prim.Native.Nat.{ℕ, ◌+◌, ◌*◌, ◌-◌, ◌<◌}
use native.Mathlib.Nat.{mul_comm, mul-one, mul_assoc, add-mul}
use native.Mathlib.Omega.{arith}
use lib.ListN.{length, get_or}
use Rattle.lists.proofs.Alls.{all-at}
use Rattle.lists.specs.Lists.{All, Bytes, join, piece}
use Rattle.lists.proofs.Pieces.{tabulate-ext, tabulate-map, tabulate-at, length-tabulate, join-ext, join-ones, length-join, piece-join}
use Rattle.sizes.specs.Sizing.{α, stripes}
use Rattle.sizes.specs.declared.Sizes.{Sizes}
use Rattle.sizes.proofs.Legal.{Legal, α-moved}
use Rattle.polynomial.specs.Polynomial.{eval}
use Rattle.mbcr.specs.Rebuild.{seconds, helper_pair, helper_packet, stand_in_packet, received, g_from, exchange_packet, exchanged, finished_stripe, finished_share}
use Rattle.mbcr.specs.Share.{DifferentPoints, stripe, F, kept, share, point}
use Rattle.mbcr.proofs.Points.{Boards, boards-left}
use Rattle.mbcr.proofs.Shape.{length-stripe, stripe-bytes}
use Rattle.mbcr.proofs.Stripe.{length_symbols, pair-true, exchanged-true, rebuilt-true}

-- ---- lengths, over any bytes

module _ (z : Sizes) (xs : List ℕ) where
  open z use {n, k, d, r}

  pub length-packet : (S j i : ℕ) (bytes : List ℕ) → length (helper_packet z xs S j i bytes) ≡ 2 * S
  unfolding helper_packet helper_pair
  length-packet S j i bytes = length-join S 2 (λ s. helper_pair z xs j i (piece (α z) s bytes)) (λ s l. refl) ∙ mul_comm S 2

  pub length-stand-in : (S j i : ℕ) (bytes : List ℕ) → length (stand_in_packet z xs S j i bytes) ≡ S
  unfolding stand_in_packet seconds
  length-stand-in S j i bytes = length-tabulate S (λ s. get_or (piece 2 s (helper_packet z xs S j i bytes)) 1 0)

  pub length-exchange : (S : ℕ) (hs bytes : List ℕ) (m : ℕ) → length (exchange_packet z xs S hs bytes m) ≡ S
  unfolding exchange_packet
  length-exchange S hs bytes m = length-join S 1 (λ s. eval (g_from z xs hs (received z S 0 s bytes)) (point xs m) ∷ []) (λ s l. refl) ∙ mul-one S

  module _ (legal : Legal z) where
    pub length-kept : (u : List ℕ) (i : ℕ) → length (kept z xs u i) ≡ α z
    unfolding kept
    length-kept u i = length_symbols z xs legal i _ _

    pub length-share : (file : List ℕ) (i : ℕ) → length (share z xs file i) ≡ stripes z (length file) * α z
    unfolding share
    length-share file i = length-join (stripes z (length file)) (α z) (λ s. kept z xs (stripe z file s) i) (λ s l. length-kept (stripe z file s) i)

    pub length-finished : (S i : ℕ) (hs bytes ms sent : List ℕ) → length (finished_share z xs S i hs bytes ms sent) ≡ S * α z
    unfolding finished_share finished_stripe
    length-finished S i hs bytes ms sent = length-join S (α z) _ (λ s l. length_symbols z xs legal i _ _)

    -- the packets of d helpers, with these bytes for shares, and of r - 1 partners, with these bytes for packets, to one fresh board: S (2d + r - 1) bytes
    pub moved : (S : ℕ) (hs : List ℕ) (i : ℕ) (held : ℕ → List ℕ) (helpers : ℕ → List ℕ) (heard : ℕ → List ℕ)
        → length (join d (λ t. helper_packet z xs S (get_or hs t 0) i (held t))) + length (join (r - 1) (λ t. exchange_packet z xs S (helpers t) (heard t) i)) ≡ S * α z
    moved S hs i held helpers heard =
        ap₂ ◌+◌ (length-join d (2 * S) (λ t. helper_packet z xs S (get_or hs t 0) i (held t)) (λ t l. length-packet S (get_or hs t 0) i (held t)))
        (length-join (r - 1) S (λ t. exchange_packet z xs S (helpers t) (heard t) i) (λ t l. length-exchange S (helpers t) (heard t) i))
        ∙ ap (λ (m : ℕ). m + (r - 1) * S) (sym (mul_assoc d 2 S))
        ∙ sym (add-mul (d * 2) (r - 1) S) ∙ ap (λ (m : ℕ). m * S) (α-moved z legal) ∙ mul_comm (α z) S

-- ---- over the shares of a file

-- the packets to board i of helpers that hold their shares, by place
abbrev pub packets : Sizes → List ℕ → List ℕ → List ℕ → ℕ → List ℕ
packets z xs file hs i = join (length hs) (λ t. helper_packet z xs (stripes z (length file)) (get_or hs t 0) i (share z xs file (get_or hs t 0)))

module _ (z : Sizes) (xs : List ℕ) (legal : Legal z) (pts : DifferentPoints z xs) (file : List ℕ) (bf : Bytes file) where
  open z use {n, k, d, r}

  abbrev S : ℕ
  S = stripes z (length file)

  abbrev u : ℕ → List ℕ
  u s = stripe z file s

  pub share-piece : (i s : ℕ) → s < S → piece (α z) s (share z xs file i) ≡ kept z xs (u s) i
  unfolding share
  share-piece i s h = piece-join S (α z) (λ s. kept z xs (u s) i) (λ s l. length-kept z xs legal (u s) i) s h

  -- a helper_packet of helper j to board i
  pub packet-true : (i j : ℕ) → j < n
      → helper_packet z xs S j i (share z xs file j) ≡ join S (λ s. F z (u s) (point xs j) (point xs i) ∷ F z (u s) (point xs i) (point xs j) ∷ [])
  unfolding helper_packet
  packet-true i j h =
      join-ext S _ _ (λ s l. ap (helper_pair z xs j i) (share-piece j s l) ∙ pair-true z xs legal pts (u s) (length-stripe z file s) (stripe-bytes z file s bf) i j h)

  module _ (hs : List ℕ) (lh : length hs ≡ d) (known : All (λ j. j < n) hs) (i : ℕ) where
    -- the helper_pair of helper t for stripe s
    pair-piece : (t s : ℕ) → t < d → s < S
        → piece 2 s (piece (2 * S) t (packets z xs file hs i)) ≡ F z (u s) (point xs (get_or hs t 0)) (point xs i) ∷ F z (u s) (point xs i) (point xs (get_or hs t 0)) ∷ []
    pair-piece t s ht hs' =
        ap (piece 2 s)
        (piece-join (length hs) (2 * S) (λ t. helper_packet z xs S (get_or hs t 0) i (share z xs file (get_or hs t 0)))
        (λ t l. length-packet z xs S (get_or hs t 0) i (share z xs file (get_or hs t 0))) t (omega arith)
        ∙ packet-true i (get_or hs t 0) (all-at (λ j. j < n) 0 hs known t (omega arith)))
        ∙ piece-join S 2 (λ s. F z (u s) (point xs (get_or hs t 0)) (point xs i) ∷ F z (u s) (point xs i) (point xs (get_or hs t 0)) ∷ []) (λ s l. refl) s hs'

    received-first : (s : ℕ) → s < S → received z S 0 s (packets z xs file hs i) ≡ map (λ j. F z (u s) (point xs j) (point xs i)) hs
    unfolding received
    received-first s h =
        tabulate-ext d _ (λ t. F z (u s) (point xs (get_or hs t 0)) (point xs i)) (λ t l. ap (λ (p : List ℕ). get_or p 0 0) (pair-piece t s l h))
        ∙ tabulate-map (λ j. F z (u s) (point xs j) (point xs i)) d hs 0 lh

    received-second : (s : ℕ) → s < S → received z S 1 s (packets z xs file hs i) ≡ map (λ j. F z (u s) (point xs i) (point xs j)) hs
    unfolding received
    received-second s h =
        tabulate-ext d _ (λ t. F z (u s) (point xs i) (point xs (get_or hs t 0))) (λ t l. ap (λ (p : List ℕ). get_or p 1 0) (pair-piece t s l h))
        ∙ tabulate-map (λ j. F z (u s) (point xs i) (point xs j)) d hs 0 lh

  -- an exchange_packet helper_packet of board i to board m
  pub exchange-true : (hs : List ℕ) → Boards z hs → length hs ≡ d → (i m : ℕ)
      → exchange_packet z xs S hs (packets z xs file hs i) m ≡ join S (λ s. F z (u s) (point xs m) (point xs i) ∷ [])
  unfolding exchange_packet
  exchange-true hs h lh i m =
      join-ext S _ _ (λ s l. ap (λ (v : ℕ). v ∷ [])
      (ap (λ (vs : List ℕ). eval (g_from z xs hs vs) (point xs m)) (received-first hs lh h.known i s l)
      ∙ exchanged-true z xs legal pts (u s) (length-stripe z file s) (stripe-bytes z file s bf) i m hs h lh))

  -- what stand-in j sends to board i
  pub stand-in-true : (i j : ℕ) → j < n → stand_in_packet z xs S j i (share z xs file j) ≡ join S (λ s. F z (u s) (point xs i) (point xs j) ∷ [])
  unfolding stand_in_packet seconds
  stand-in-true i j h =
      tabulate-ext S _ (λ s. F z (u s) (point xs i) (point xs j))
      (λ s l. ap (λ (p : List ℕ). get_or (piece 2 s p) 1 0) (packet-true i j h)
      ∙ ap (λ (p : List ℕ). get_or p 1 0) (piece-join S 2 (λ s. F z (u s) (point xs j) (point xs i) ∷ F z (u s) (point xs i) (point xs j) ∷ []) (λ s l. refl) s l))
      ∙ sym (join-ones S (λ s. F z (u s) (point xs i) (point xs j)))

  module _ (i : ℕ) (ms : List ℕ) (lm : length ms ≡ r - 1) (sent : ℕ → List ℕ)
      (true-sent : (t : ℕ) → t < r - 1 → sent t ≡ join S (λ s. F z (u s) (point xs i) (point xs (get_or ms t 0)) ∷ [])) where
    -- packets of the partners that have F(x_i, y_m) for each stripe
    exchanged-all : (s : ℕ) → s < S → exchanged z S s (join (r - 1) sent) ≡ map (λ m. F z (u s) (point xs i) (point xs m)) ms
    unfolding exchanged
    exchanged-all s h =
        tabulate-ext (r - 1) _ (λ t. F z (u s) (point xs i) (point xs (get_or ms t 0)))
        (λ t l. ap (λ (p : List ℕ). get_or p s 0)
        (piece-join (r - 1) S sent (λ t l. ap length (true-sent t l) ∙ length-join S 1 _ (λ s k. refl) ∙ mul-one S) t l ∙ true-sent t l)
        ∙ ap (λ (p : List ℕ). get_or p s 0) (join-ones S (λ s. F z (u s) (point xs i) (point xs (get_or ms t 0))))
        ∙ tabulate-at S (λ s. F z (u s) (point xs i) (point xs (get_or ms t 0))) 0 s h)
        ∙ tabulate-map (λ m. F z (u s) (point xs i) (point xs m)) (r - 1) ms 0 lm

    -- the finished share of true packets is the board's share
    pub finished-true : (hs : List ℕ) → length hs ≡ d → Boards z (hs ++ ms ++ (i ∷ []))
        → finished_share z xs S i hs (packets z xs file hs i) ms (join (r - 1) sent) ≡ share z xs file i
    unfolding finished_share share
    finished-true hs lh h =
        let bh : Boards z hs = boards-left z hs ms (boards-left z (hs ++ ms) (i ∷ []) h) in
        join-ext S _ (λ s. kept z xs (u s) i) (λ s l.
        ap₂ (λ (x y : List ℕ). finished_stripe z xs i hs x y ms (exchanged z S s (join (r - 1) sent)))
        (received-first hs lh bh.known i s l) (received-second hs lh bh.known i s l)
        ∙ ap (finished_stripe z xs i hs _ _ ms) (exchanged-all s l)
        ∙ rebuilt-true z xs legal pts (u s) (length-stripe z file s) (stripe-bytes z file s bf) i hs ms h lh lm)
