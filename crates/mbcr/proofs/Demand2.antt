-- Demand 2 holds of every legal sizes and different byte points.
-- Assumes nothing.
use mathlib.Core.Path.{◌≡◌, refl, sym, ap, ap₂, ◌∙◌}
use mathlib.Core.Bool.{true}
use mathlib.Core.List.{List, [], ◌∷◌, ◌++◌}
use Prim.Native.Nat.{ℕ, ◌+◌, ◌*◌, ◌-◌, ◌%◌, ◌<◌, ◌≤◌}
use native.Mathlib.Nat.{mul_comm, mul_assoc, add-mul}
use native.Mathlib.Decide.{dec_lt}
use native.Mathlib.Omega.{arith}
use lib.ListN.{length, get_or, take, drop, length-append}
use Rattle.mbcr.proofs.Shape as shape
use Rattle.mbcr.proofs.Repair as repair
use Rattle.mbcr.proofs.Read as reading
use Rattle.mbcr.proofs.Places as places
use Rattle.lists.specs.Lists.{Bytes, All, tabulate, joined, join, piece}
use Rattle.lists.proofs.Alls.{all-imp, all_of, all-at}
use Rattle.lists.proofs.Pieces.{length-joined, join-joined, piece-join, length-fit}
use Rattle.gf256.specs.Field.{mul}
use Rattle.sizes.specs.Sizing.{legal, B, α}
use Rattle.sizes.specs.declared.Sizes.{Sizes}
use Rattle.sizes.proofs.Legal.{Legal, legal-facts, α-moved}
use Rattle.polynomial.specs.Polynomial.{entry, sum, power, eval, interpolate}
use Rattle.polynomial.proofs.Grid.{Shape}
use Rattle.polynomial.proofs.Sums.{grid-sum}
use Rattle.mbcr.specs.Demand2.{Named, packets_from_shares, exchanges_from_shares, S, symbol, Demand2, Demand2Claim, Standard}
use Rattle.mbcr.specs.Rebuild.{own_f, own_g, helper_packet, exchange_packet, finished_share}
use Rattle.mbcr.specs.Share.{DifferentPoints, grid, F, neighbours, share, shares, point, points}
use Rattle.mbcr.proofs.Linear.{shares-add}
use Rattle.mbcr.proofs.Points.{Boards, boards-of, standard-points, standard-point}
use Rattle.mbcr.proofs.Stripe.{f-kept, g-kept, f-value, g-value}

module _ (z : Sizes) (xs : List ℕ) (ok : legal z ≡ true) (pts : DifferentPoints z xs) where
  open z use {n, k, d, r}

  facts : Legal z
  facts = legal-facts z ok

  named : (m : ℕ) (boards : List ℕ) → Named z m boards → Boards z boards
  named m boards h = boards-of z boards h.1 h.2

  -- ---- F as a sum

  rows_short : (u : List ℕ) (lu : length u ≡ B z) (bu : Bytes u) → All (λ row. length row ≤ d + r) (grid z u)
  rows_short u lu bu =
      let s = shape.shape z facts u lu bu in
      all_of (λ row. length row ≤ d + r) [] (grid z u) (λ i l. go i (omega (arith, s.rows)) s (dec_lt i k))
    where
      go : (i : ℕ) → i < d → Shape k d r (grid z u) → Dec (i < k) → length (get_or (grid z u) i []) ≤ d + r
      go i l s (yes h) = omega (arith, s.upper i h)
      go i l s (no h) = omega (arith, s.lower i (omega arith) l, facts.read-helpers)

  F-sum : (u : List ℕ) → length u ≡ B z → Bytes u → (x y : ℕ)
      → F z u x y ≡ sum d (λ i. sum (d + r) (λ j. mul (entry (grid z u) i j) (mul (power x i) (power y j))))
  unfolding F
  F-sum u lu bu x y =
      let s = shape.shape z facts u lu bu in
      grid-sum (grid z u) x y d (d + r) s.bytes (omega (arith, s.rows)) (rows_short u lu bu)

  -- ---- the packets to one fresh board

  moved : (S i : ℕ) (helpers partners : List ℕ) (held theirs got : ℕ → List ℕ) → length helpers ≡ d → length partners ≡ r - 1
      → length (joined (λ j. helper_packet z xs S j i (held j)) helpers) + length (joined (λ m. exchange_packet z xs S (theirs m) (got m) i) partners)
      ≡ S * (2 * d + r - 1)
  moved S i helpers partners held theirs got lh lp =
      ap₂ ◌+◌
      (length-joined (2 * S) (λ j. helper_packet z xs S j i (held j)) (λ j. repair.length-packet z xs S j i (held j)) helpers ∙ ap (λ (m : ℕ). m * (2 * S)) lh)
      (length-joined S (λ m. exchange_packet z xs S (theirs m) (got m) i) (λ m. repair.length-exchange z xs S (theirs m) (got m) i) partners ∙ ap (λ (m : ℕ). m * S) lp)
      ∙ ap (λ (m : ℕ). m + (r - 1) * S) (sym (mul_assoc d 2 S))
      ∙ sym (add-mul (d * 2) (r - 1) S) ∙ ap (λ (m : ℕ). m * S) (α-moved z facts) ∙ mul_comm (α z) S

  -- ---- over the shares of a file

  module _ (file : List ℕ) (bf : Bytes file) where
    sent_is : (helpers : List ℕ) (i : ℕ) → packets_from_shares z xs file helpers i ≡ repair.packets z xs file helpers i
    unfolding packets_from_shares
    sent_is helpers i = sym (join-joined (λ j. helper_packet z xs (S z file) j i (share z xs file j)) helpers)

    exchange-true : (helpers : List ℕ) → Named z d helpers → (i m : ℕ)
        → exchange_packet z xs (S z file) helpers (packets_from_shares z xs file helpers i) m ≡ join (S z file) (λ s. symbol z xs file s m i ∷ [])
    exchange-true helpers h i m =
        ap (λ (p : List ℕ). exchange_packet z xs (S z file) helpers p m) (sent_is helpers i)
        ∙ repair.exchange-true z xs facts pts file bf helpers (named d helpers h) h.0 i m

    finished-by-symbols : (i : ℕ) (helpers partners : List ℕ) (sent : ℕ → List ℕ)
        → Named z (d + r) (helpers ++ partners ++ (i ∷ [])) → length helpers ≡ d
        → All (λ m. sent m ≡ join (S z file) (λ s. symbol z xs file s i m ∷ [])) partners
        → finished_share z xs (S z file) i helpers (packets_from_shares z xs file helpers i) partners (joined sent partners) ≡ share z xs file i
    finished-by-symbols i helpers partners sent h lh ht =
        let lm : length partners ≡ r - 1 = omega (arith, length-append (helpers ++ partners) (i ∷ []), length-append helpers partners, h.0) in
        let js : joined sent partners ≡ join (r - 1) (λ t. sent (get_or partners t 0)) =
        sym (join-joined sent partners) ∙ ap (λ (m : ℕ). join m (λ t. sent (get_or partners t 0))) lm in
        ap₂ (λ (a b : List ℕ). finished_share z xs (S z file) i helpers a partners b) (sent_is helpers i) js
        ∙ repair.finished-true z xs facts pts file bf i partners lm (λ t. sent (get_or partners t 0))
        (λ t l. all-at (λ m. sent m ≡ join (S z file) (λ s. symbol z xs file s i m ∷ [])) 0 partners ht t (omega arith))
        helpers lh (named (d + r) (helpers ++ partners ++ (i ∷ [])) h)

    finished-true : (i : ℕ) (helpers partners : List ℕ) (theirs : ℕ → List ℕ)
        → Named z (d + r) (helpers ++ partners ++ (i ∷ [])) → length helpers ≡ d → All (λ m. Named z d (theirs m)) partners
        → finished_share z xs (S z file) i helpers (packets_from_shares z xs file helpers i) partners (exchanges_from_shares z xs file partners theirs i) ≡ share z xs file i
    unfolding exchanges_from_shares
    finished-true i helpers partners theirs h lh ht =
        finished-by-symbols i helpers partners (λ m. exchange_packet z xs (S z file) (theirs m) (packets_from_shares z xs file (theirs m) m) i) h lh
        (all-imp (λ m. Named z d (theirs m)) _ (λ m k. exchange-true (theirs m) k m i) partners ht)

  own-f-any : (j : ℕ) (w : List ℕ) → own_f z xs j w ≡ interpolate (points xs (tabulate (d + r) (λ t. (j + t) % n))) (take (d + r) w)
  unfolding own_f neighbours
  own-f-any j w = refl

  own-g-any : (j : ℕ) (w : List ℕ) → own_g z xs j w ≡ interpolate (points xs (tabulate d (λ t. (j + t) % n))) (take 1 w ++ drop (d + r) w)
  unfolding own_g neighbours
  own-g-any j w = refl

  shares-length : (file boards : List ℕ) → length (shares z xs file boards) ≡ length boards * (S z file * α z)
  unfolding shares
  shares-length file boards = length-joined (S z file * α z) (share z xs file) (repair.length-share z xs facts file) boards

  shares-place : (file boards : List ℕ) (t : ℕ) → t < length boards → piece (S z file * α z) t (shares z xs file boards) ≡ share z xs file (get_or boards t 0)
  unfolding shares
  shares-place file boards t h =
      ap (piece (S z file * α z) t) (sym (join-joined (share z xs file) boards))
      ∙ piece-join (length boards) (S z file * α z) (λ t. share z xs file (get_or boards t 0)) (λ t l. repair.length-share z xs facts file (get_or boards t 0)) t h

  all : Demand2 z xs
  all = record {
    coefficient-a = λ u l. shape.entry-a z facts u l;
    coefficient-b = λ u l. shape.entry-b z facts u l;
    coefficient-c = λ u l. shape.entry-c z facts u l;
    coefficient-none = λ u l. shape.entry-none z facts u l;
    F-sum = F-sum;
    stripe-length = shape.length-stripe z;
    stripe-place = places.stripe-place z;
    share-f = places.share-f z xs facts;
    share-g = places.share-g z xs facts;
    fixed-f = λ u lu bu i h. let e = f-kept z xs facts pts u lu bu i h in (
      ap length e ∙ length-fit (d + r) _,
      λ y. ap (λ (p : List ℕ). eval p y) e ∙ f-value z xs facts pts u lu bu (point xs i) y,
    );
    fixed-g = λ u lu bu i h. let e = g-kept z xs facts pts u lu bu i h in (
      ap length e ∙ length-fit d _,
      λ x. ap (λ (p : List ℕ). eval p x) e ∙ g-value z xs facts pts u lu bu x (point xs i),
    );
    share-length = repair.length-share z xs facts;
    packet-length = repair.length-packet z xs;
    stand-in-length = repair.length-stand-in z xs;
    exchange-length = repair.length-exchange z xs;
    finished-length = repair.length-finished z xs facts;
    decoded-length = λ L boards held l. reading.length-decoded-file z xs facts boards l L held;
    moved = moved;
    share-bytes = places.share-bytes z xs facts;
    packet-bytes = places.packet-bytes z xs facts;
    stand-in-bytes = places.stand-in-bytes z xs facts;
    exchange-bytes = places.exchange-bytes z xs facts;
    finished-bytes = places.finished-bytes z xs facts;
    received-place = places.received-place z;
    exchanged-place = places.exchanged-place z;
    own-f-any = own-f-any;
    own-g-any = own-g-any;
    packet-any = places.packet-any z xs;
    exchange-any = places.exchange-any z xs;
    finished-f-any = places.finished-f-any z xs facts;
    finished-g-any = places.finished-g-any z xs facts;
    packet-true = λ file bf. repair.packet-true z xs facts pts file bf;
    stand-in-place = places.stand-in-place z xs;
    stand-in-true = λ file bf. repair.stand-in-true z xs facts pts file bf;
    exchange-true = exchange-true;
    finished-true = finished-true;
    finished-by-symbols = finished-by-symbols;
    shares-length = shares-length;
    shares-place = shares-place;
    decodes = λ file boards bf h. reading.decoded-file-true z xs facts pts boards (named k boards h) h.0 file bf;
    shares-fix = λ file file' boards b b' h. reading.shares-injective z xs facts pts boards (named k boards h) h.0 file file' b b';
    read-file = λ L boards held file b h. (
      reading.read-sound z xs facts pts boards (named k boards h) h.0 L held file b,
      λ p. reading.read-complete z xs facts pts boards (named k boards h) h.0 L held file p.0 p.1 p.2,
    );
    read_none = λ L boards held b h. reading.read_none z xs facts pts boards (named k boards h) h.0 L held b;
    shares-add = shares-add z xs facts;
  }

pub demand-2 : Demand2Claim
demand-2 = all

pub standard-is : Standard
standard-is z ok =
    let f = legal-facts z ok in
    (standard-points z f.few, standard-point z f.few)
