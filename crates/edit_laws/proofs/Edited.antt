-- An edit that passes its checks, stripe by stripe over the stripes that it reaches, is the edit of request A.6.
-- Assumes nothing.
use Prim.Native.Nat.{ℕ, zero, suc, ◌+◌, ◌*◌, ◌-◌, ◌≤◌, ◌<◌}
use mathlib.Core.Path.{◌≡◌, refl, sym, ap, ap₂, ◌∙◌, fun_ext}
use mathlib.Core.List.{List, [], ◌∷◌, ◌++◌, map}
use native.Mathlib.Decide.{dec_lt}
use native.Mathlib.Nat.{add-zero, zero-add, zero-mul, mul-le-mul_right}
use native.Mathlib.Numerals.{add-one}
use native.Mathlib.Omega.{arith}
use lib.ListN.{length, get_or, take, drop, length-drop}
use lib.Seq.{ext_get_or, get_or-take, get_or-drop, drop-drop, length-take-le}
use Rattle.lists.specs.Lists.{tabulate, join, joined, piece, put}
use Rattle.lists.proofs.Pieces.{length-tabulate, tabulate-at, tabulate-ext, join-ext, join-piece, piece-at, piece-join, fit_at}
use Rattle.lists.proofs.Put.{length-put, byte-before, byte-in, byte-after, part_end}
use Rattle.gf256.specs.Field.{add}
use Rattle.sizes.specs.Refusals.{first, store_order}
use Rattle.std.specs.Prelude.{Ok}
use Rattle.sizes.specs.declared.Sizes.{Sizes}
use Rattle.sizes.specs.Sizing.{α, B, stripes}
use Rattle.sizes.proofs.Legal.{Legal, legal-facts, stripes-least}
use Rattle.polynomial.specs.Polynomial.{plus}
use Rattle.polynomial.proofs.Linear.{length-plus, plus-at}
use Rattle.mbcr.specs.Read.{decoded_stripe, decoded_file}
use Rattle.mbcr.specs.Share.{share, stripe, kept}
use Rattle.mbcr.proofs.Decode.{length-decoded}
use Rattle.mbcr.proofs.Read.{length-decoded-file}
use Rattle.mbcr.proofs.Repair.{length-kept}
use Rattle.mbcr.proofs.Shape.{length-stripe}
use Rattle.board_spec.specs.Calls.{file_of}
use Rattle.board_spec.proofs.Files.{file-is}
use Rattle.store_spec.specs.Calls.{file_held}
use Rattle.store_spec.specs.Edit.{edit_lines, change, edited_share}
use Rattle.store_spec.specs.Record.{Record, serving, stripe_count, part_len, held, put_shares}
use Rattle.store_spec.proofs.Records.{Sound, sound-facts, Reads, edit-facts}
use Rattle.decode_laws.specs.Steps.{held_at}
use Rattle.decode_laws.proofs.Agree.{decoded-ext}
use Rattle.stripes_cut.specs.Steps.{stripe_at}
use Rattle.decode_file.proofs.Shares.{held-there}
use Rattle.decode_area.proofs.Parts.{parts-long, parts-placed, parts-shares}
use Rattle.area_puts.proofs.Puts.{puts-same}
use Rattle.store_write.proofs.Places.{by-places}
use Rattle.edit_rows.specs.Steps.{changed_at}
use Rattle.edit_rows.proofs.Rows.{before, behind, inside}
use Rattle.edit_put.specs.Steps.{added}
use Rattle.edit_put.proofs.Added.{board-low}
use Rattle.edit_stripe.specs.Steps.{changed_stripe}
use Rattle.edit_laws.specs.Steps.{stripe_edited, stripes_edited}
use Rattle.edit_laws.proofs.Serving.{serving-different, serving-below}
use Rattle.edit_laws.proofs.Stripes as by
use Rattle.edit_laws.proofs.Zeros.{add-self, none, nothing-added}

-- byte q of stripe t of a file
stripe-at : (z : Sizes) (file : List ℕ) (t q : ℕ) → q < B z → get_or (stripe z file t) q 0 ≡ get_or file (t * B z + q) 0
unfolding stripe
stripe-at z file t q h = fit_at (B z) (drop (t * B z) file) q h ∙ get_or-drop (t * B z) file q 0

-- places of boards
places-at : (m : ℕ) (l : List ℕ) (a : ℕ) → get_or (map (λ b. b * m) l) a 0 ≡ get_or l a 0 * m
places-at m [] zero = sym (zero-mul m)
places-at m [] (suc a) = sym (zero-mul m)
places-at m (b ∷ l) zero = refl
places-at m (b ∷ l) (suc a) = places-at m l a

append-plus : (p q p' q' : List ℕ) → length p ≡ length q → plus p q ++ plus p' q' ≡ plus (p ++ p') (q ++ q')
append-plus [] [] p' q' h = refl
append-plus [] (b ∷ q) p' q' h = absurd (omega arith)
append-plus (a ∷ p) [] p' q' h = absurd (omega arith)
append-plus (a ∷ p) (b ∷ q) p' q' h = ap {B = List ℕ} (λ l. add a b ∷ l) (append-plus p q p' q' (omega arith))

join-plus-below : (n : ℕ) (f g : ℕ → List ℕ) → ((i : ℕ) → i < n → length (f i) ≡ length (g i)) → join n (λ i. plus (f i) (g i)) ≡ plus (join n f) (join n g)
join-plus-below zero f g h = refl
join-plus-below (suc n) f g h =
    ap (λ (l : List ℕ). plus (f 0) (g 0) ++ l) (join-plus-below n (λ i. f (suc i)) (λ i. g (suc i)) (λ i k. h (suc i) (omega arith)))
    ∙ append-plus (f 0) (g 0) (join n (λ i. f (suc i))) (join n (λ i. g (suc i))) (h 0 (omega arith))

module _ (s : Record) (area₀ : List ℕ) (offset : ℕ) (bytes boards : List ℕ) (pass : first store_order (edit_lines s area₀ offset bytes boards) ≡ Ok tt) where
  abbrev z : Sizes
  z = s.sizes

  abbrev xs : List ℕ
  xs = s.points

  abbrev S : ℕ
  S = stripe_count s

  abbrev W : ℕ
  W = part_len s

  f : Reads s (length area₀) s.sizes.k boards
  f = (edit-facts s area₀ offset bytes boards pass).0

  g : Sound s
  g = sound-facts s f.is-sound

  legal : Legal z
  legal = legal-facts z g.is-legal

  few : S ≤ s.capacity
  few = stripes-least z legal s.length s.capacity g.fits

  -- a stripe lies in its part
  room : (t : ℕ) → t < S → t * α z + α z ≤ W
  room t h =
      let q : S * α z ≤ W = mul-le-mul_right (α z) few in
      omega (arith, part_end t (α z) S h, q)

  -- where the boards are read
  abbrev pub starts : List ℕ
  starts = map (λ b. b * part_len s) boards

  -- ---- the file, and by what it changes

  abbrev file : List ℕ
  file = file_of (file_held s area₀ boards)

  abbrev H : List ℕ
  H = joined (held s area₀) boards

  file-read : file ≡ decoded_file z xs s.length boards H
  file-read = file-is z xs s.length boards H (edit-facts s area₀ offset bytes boards pass).2

  file-long : length file ≡ s.length
  file-long = ap length file-read ∙ length-decoded-file z xs legal boards f.count s.length H

  fits : offset + length bytes ≤ length file
  fits = omega (arith, file-long, (edit-facts s area₀ offset bytes boards pass).1)

  abbrev new : List ℕ
  new = put file offset bytes

  new-long : length new ≡ length file
  new-long = length-put file offset bytes fits

  abbrev delta : List ℕ
  delta = change file offset bytes

  delta-long : length delta ≡ s.length
  delta-long = length-plus file new (sym new-long) ∙ file-long

  -- stripe t as it is read
  abbrev old : ℕ → List ℕ
  old t = stripe_at z xs boards starts area₀ t

  abbrev told : ℕ → ℕ → List ℕ
  told t a = piece (α z) t (piece (S * α z) a H)

  old-is : (t : ℕ) → t < S → decoded_stripe z xs boards (told t) ≡ old t
  old-is t h =
      decoded-ext z xs boards (told t) (held_at z starts area₀ t)
      (λ a k.
      ap (λ (l : List ℕ). piece (α z) t (piece (S * α z) a l)) (sym (parts-shares z s.capacity s.length S boards area₀ f.named-below f.area-is refl few))
      ∙ held-there z S starts area₀ (parts-placed z s.capacity s.length S boards area₀ f.named-below f.area-is refl few) t a h
      (omega (arith, k, f.count, parts-long z s.capacity s.length S boards area₀ f.named-below f.area-is refl few)))

  old-at : (t q : ℕ) → t < S → q < B z → t * B z + q < s.length → get_or file (t * B z + q) 0 ≡ get_or (old t) q 0
  unfolding decoded_file
  old-at t q ht hq hp =
      ap (λ (l : List ℕ). get_or l (t * B z + q) 0) file-read
      ∙ get_or-take s.length (join S (λ u. decoded_stripe z xs boards (told u))) (t * B z + q) 0 hp
      ∙ sym (piece-at (B z) t (join S (λ u. decoded_stripe z xs boards (told u))) q 0 hq)
      ∙ ap (λ (l : List ℕ). get_or l q 0)
      (piece-join S (B z) (λ u. decoded_stripe z xs boards (told u)) (λ u k. length-decoded z xs legal boards f.count (told u)) t ht ∙ old-is t ht)

  byte : (t q : ℕ) → t < S → q < B z → changed_at offset bytes (t * B z + q) (get_or (old t) q 0) ≡ get_or delta (t * B z + q) 0
  byte t q ht hq = go (dec_lt p offset) (dec_lt p (offset + length bytes))
    where
      p : ℕ
      p = t * B z + q

      same : get_or new p 0 ≡ get_or file p 0 → 0 ≡ get_or delta p 0
      same e = sym (plus-at file new p ∙ ap (add (get_or file p 0)) e ∙ add-self (get_or file p 0))

      go : Dec (p < offset) → Dec (p < offset + length bytes) → changed_at offset bytes p (get_or (old t) q 0) ≡ get_or delta p 0
      go (yes a) b = sym (before offset bytes p (get_or (old t) q 0) a) ∙ same (byte-before file offset bytes fits p a)
      go (no a) (no b) = sym (behind offset bytes p (get_or (old t) q 0) (omega arith) (omega arith)) ∙ same (byte-after file offset bytes fits p (omega arith))
      go (no a) (yes b) =
          let e : offset + (p - offset) ≡ p = omega arith in
          sym (inside offset bytes p (get_or (old t) q 0) (omega arith) (omega arith))
          ∙ ap₂ add (sym (old-at t q ht hq (omega (arith, fits, file-long))))
          (sym (ap (λ (i : ℕ). get_or new i 0) (sym e) ∙ byte-in file offset bytes fits (p - offset) (omega arith)))
          ∙ sym (plus-at file new p)

  changed-is : (t : ℕ) → t < S → changed_stripe z xs boards starts area₀ offset bytes t ≡ stripe z delta t
  unfolding changed_stripe
  changed-is t ht =
      let l : length (changed_stripe z xs boards starts area₀ offset bytes t) ≡ B z = length-tabulate (B z) _ in
      ext_get_or 0 _ _ (l ∙ sym (length-stripe z delta t))
      (λ q h. let hq : q < B z = omega (arith, h, l) in
      tabulate-at (B z) (λ q. changed_at offset bytes (t * B z + q) (get_or (old t) q 0)) 0 q hq ∙ byte t q ht hq ∙ sym (stripe-at z delta t q hq))

  -- a stripe that is not reached
  unreached : (t : ℕ) → t < S → ((q : ℕ) → q < B z → (t * B z + q < offset → ⊥) → offset + length bytes ≤ t * B z + q) → stripe z delta t ≡ none (B z)
  unfolding changed_stripe
  unreached t ht out = sym (changed-is t ht) ∙ tabulate-ext (B z) _ (λ q. 0) (λ q hq. go q hq (dec_lt (t * B z + q) offset))
    where
      go : (q : ℕ) → q < B z → Dec (t * B z + q < offset) → changed_at offset bytes (t * B z + q) (get_or (old t) q 0) ≡ 0
      go q hq (yes a) = sym (before offset bytes (t * B z + q) (get_or (old t) q 0) a)
      go q hq (no a) =
          let e = out q hq a in
          sym (behind offset bytes (t * B z + q) (get_or (old t) q 0) (omega arith) (omega arith))

  -- ---- the stripes so far

  abbrev keeps : ℕ → ℕ → List ℕ
  keeps t i = kept z xs (stripe z delta t) i

  long-keeps : (t i : ℕ) → length (keeps t i) ≡ α z
  long-keeps t i = length-kept z xs legal (stripe z delta t) i

  abbrev up_to : ℕ → List ℕ
  up_to = by.up_to z.n W (α z) (serving s) area₀ (serving-below s) (serving-different s) f.area-is keeps long-keeps

  stays : (i t : ℕ) → t < S → take (α z) (drop (i * W + t * α z) (up_to t)) ≡ take (α z) (drop (i * W + t * α z) area₀)
  stays i t h = by.stays z.n W (α z) (serving s) area₀ (serving-below s) (serving-different s) f.area-is keeps long-keeps i t (room t h)

  -- what is read of stripe t is as it was
  same-held : (t : ℕ) → t < S → held_at z starts (up_to t) t ≡ held_at z starts area₀ t
  unfolding held_at
  same-held t h =
      fun_ext (λ a.
      ap (λ (p : ℕ). take (α z) (drop (p + t * α z) (up_to t))) (places-at W boards a)
      ∙ stays (get_or boards a 0) t h
      ∙ ap (λ (p : ℕ). take (α z) (drop (p + t * α z) area₀)) (sym (places-at W boards a)))

  next : (t : ℕ) → t < S → stripe_edited z xs boards starts W (serving s) offset bytes t (up_to t) ≡ up_to (t + 1)
  unfolding stripe_edited changed_stripe
  next t h =
      ap (λ (w : ℕ → List ℕ).
      added (α z) W (t * α z) (kept z xs (tabulate (B z) (λ q. changed_at offset bytes (t * B z + q) (get_or (decoded_stripe z xs boards w) q 0)))) (serving s) (up_to t)) (same-held t h)
      ∙ ap (λ (u : List ℕ). added (α z) W (t * α z) (kept z xs u) (serving s) (up_to t)) (changed-is t h)
      ∙ by.next z.n W (α z) (serving s) area₀ (serving-below s) (serving-different s) f.area-is keeps long-keeps t (room t h)

  still : (t : ℕ) → t < S → stripe z delta t ≡ none (B z) → up_to t ≡ up_to (t + 1)
  still t h e =
      by.still z.n W (α z) (serving s) area₀ (serving-below s) (serving-different s) f.area-is keeps long-keeps t (room t h)
      (λ i hi.
      let l : length (take (α z) (drop (i * W + t * α z) area₀)) ≡ α z =
      length-take-le (α z) (drop (i * W + t * α z) area₀) (rw length-drop (omega (arith, part_end i W z.n hi, f.area-is, room t h))) in
      ap (λ (u : List ℕ). plus (take (α z) (drop (i * W + t * α z) area₀)) (kept z xs u i)) e
      ∙ nothing-added z legal xs (take (α z) (drop (i * W + t * α z) area₀)) i (length-kept z xs legal (none (B z)) i ∙ sym l))

  -- those that are edited
  runs : (t m : ℕ) → t + m ≤ S → stripes_edited z xs boards starts W (serving s) offset bytes t m (up_to t) ≡ up_to (t + m)
  runs t zero h = ap up_to (sym (add-zero t))
  runs t (suc m) h =
      let e : suc t + m ≡ t + suc m = omega arith in
      ap (stripes_edited z xs boards starts W (serving s) offset bytes (suc t) m) (next t (omega arith) ∙ ap up_to (add-one t))
      ∙ runs (suc t) m (omega arith) ∙ ap up_to e

  -- those that stay
  rests : (t m : ℕ) → t + m ≤ S → ((u : ℕ) → t ≤ u → u < t + m → stripe z delta u ≡ none (B z)) → up_to t ≡ up_to (t + m)
  rests t zero h e = ap up_to (sym (add-zero t))
  rests t (suc m) h e =
      let q : suc t + m ≡ t + suc m = omega arith in
      still t (omega arith) (e t (omega arith) (omega arith)) ∙ ap up_to (add-one t)
      ∙ rests (suc t) m (omega arith) (λ u a b. e u (omega arith) (omega arith)) ∙ ap up_to q

  -- ---- all of them

  abbrev cells : ℕ → ℕ → List ℕ
  cells i t = take (α z) (drop (i * W + t * α z) area₀)

  held-cells : (i : ℕ) → held s area₀ i ≡ join S (cells i)
  unfolding piece
  held-cells i =
      sym (join-piece S (α z) (drop (i * W) area₀))
      ∙ join-ext S _ (cells i) (λ t h. ap (take (α z)) (drop-drop (t * α z) (i * W) area₀))

  share-keeps : (i : ℕ) → share z xs delta i ≡ join S (λ t. keeps t i)
  unfolding share
  share-keeps i = ap (λ (m : ℕ). join (stripes z m) (λ t. keeps t i)) delta-long

  whole : up_to S ≡ put_shares s (edited_share s area₀ file offset bytes) (serving s) area₀
  whole =
      puts-same (λ a. get_or (serving s) a 0 * W) (λ a. get_or (serving s) a 0 * W) _ (λ a. edited_share s area₀ file offset bytes (get_or (serving s) a 0)) (length (serving s)) area₀
      (λ a h. refl)
      (λ a h.
      let i : ℕ = get_or (serving s) a 0 in
      join-plus-below S (cells i) (λ t. keeps t i) (λ t k. cell-long i t (board-low z.n (serving s) a (serving-below s) h) k ∙ sym (long-keeps t i))
      ∙ ap₂ plus (sym (held-cells i)) (sym (share-keeps i)))
      ∙ by-places s (edited_share s area₀ file offset bytes) (serving s) (length (serving s)) area₀ refl
    where
      cell-long : (i t : ℕ) → i < z.n → t < S → length (cells i t) ≡ α z
      cell-long i t hi ht =
          length-take-le (α z) (drop (i * W + t * α z) area₀) (rw length-drop (omega (arith, part_end i W z.n hi, f.area-is, room t ht)))

  -- the stripes from `first` on, as many as the edit reaches
  pub edited : (first count : ℕ) → first * B z ≤ offset → offset + length bytes ≤ (first + count) * B z → first + count ≤ S
      → stripes_edited z xs boards starts W (serving s) offset bytes first count area₀ ≡ put_shares s (edited_share s area₀ file offset bytes) (serving s) area₀
  edited first count lo hi end =
      let m : first + count + (S - (first + count)) ≡ S = omega arith in
      ap (stripes_edited z xs boards starts W (serving s) offset bytes first count)
      (by.none z.n W (α z) (serving s) area₀ (serving-below s) (serving-different s) f.area-is keeps long-keeps
      ∙ rests 0 first (omega arith) (λ u a b. unreached u (omega arith) (λ q hq no. absurd (no (omega (arith, part_end u (B z) first (omega arith), lo, hq)))))
      ∙ ap up_to (zero-add first))
      ∙ runs first count end
      ∙ rests (first + count) (S - (first + count)) (omega arith)
      (λ u a b. unreached u (omega arith) (λ q hq no. let e : (first + count) * B z ≤ u * B z = mul-le-mul_right (B z) a in omega (arith, e, hi)))
      ∙ ap up_to m ∙ whole
