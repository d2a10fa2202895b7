-- What an accepted edit does, over any record and any area.
-- Assumes nothing.
use Prim.Native.Nat.{ℕ, ◌+◌, ◌*◌, ◌≤◌, ◌<◌}
use mathlib.Core.Path.{◌≡◌, refl, sym, ◌∙◌, ap, ap₂}
use mathlib.Core.Bool.{Bool, true, false}
use mathlib.Core.List.{List, [], ◌∷◌}
use mathlib.Core.Option.{Option, some, none}
use native.Mathlib.Omega.{arith}
use native.Mathlib.Decide.{dec_lt}
use native.Mathlib.Nat.{suc-mul}
use lib.ListN.{length, drop, get_or, length-drop}
use lib.Seq.{ext_get_or, length-take-le}
use Rattle.lists.specs.Lists.{All, Bytes, piece, put, joined}
use Rattle.lists.specs.Tests.{pick, among, given, same}
use Rattle.lists.proofs.Alls.{take-alls, drop-alls}
use Rattle.lists.proofs.Boards.{among-all, joined-all}
use Rattle.lists.proofs.Pieces.{piece-at, piece-join, length-piece, joined_bytes}
use Rattle.lists.proofs.Put.{length-put, byte-before, byte-after, part_end}
use Rattle.lists.proofs.Tests.{true-false}
use Rattle.gf256.specs.Field.{add}
use Rattle.sizes.specs.Refusals.{first, store_order}
use Rattle.std.specs.Prelude.{Ok}
use Rattle.sizes.specs.Sizing.{α, B, stripes}
use Rattle.sizes.proofs.Legal.{legal-facts}
use Rattle.polynomial.specs.Polynomial.{plus}
use Rattle.polynomial.proofs.Linear.{length-plus, plus-at}
use Rattle.mbcr.specs.Demand2.{Demand2}
use Rattle.mbcr.specs.Read.{decoded_file, read_file}
use Rattle.mbcr.specs.Share.{share, shares, stripe, kept}
use Rattle.mbcr.proofs.Demand2.{demand-2}
use Rattle.mbcr.proofs.Repair.{length-kept}
use Rattle.board_spec.specs.Calls.{file_of}
use Rattle.store_spec.specs.Calls.{StoreOutcome, accepted, file_held}
use Rattle.store_spec.specs.Edit.{edit_lines, edited_share, edit_done, edit_call}
use Rattle.store_spec.specs.EditLaws.{Reached, Edited, EditLaws}
use Rattle.store_spec.specs.Record.{Record, in_service, serving, stripe_count, part_len, used_len, held, put_shares}
use Rattle.store_spec.proofs.Area.{length-shares, shares-same, byte-stays}
use Rattle.store_spec.proofs.Passed.{passes}
use Rattle.store_spec.proofs.Marks.{on_below}
use Rattle.store_spec.proofs.Records.{Sound, sound-facts, sound-points, Reads, edit-facts, used-fits}
use Rattle.store_spec.proofs.Passed.{settle-pass}
use Rattle.store_spec.proofs.Sums.{add-both, plus-both, put-none, put-again, length-plus-short, take_short, serving-on, serving-low, serving-has, serving-is}

-- a file that is given
found : (o : Option (List ℕ)) → given o ≡ true → o ≡ some (file_of o)
found (some f) e = refl
found none e = absurd (true-false e refl)

module _ (s : Record) (area : List ℕ) (offset : ℕ) (bytes boards : List ℕ) (ok : (edit_call s area offset bytes boards).answer.refusal ≡ 0) where
  pass : first store_order (edit_lines s area offset bytes boards) ≡ Ok tt
  unfolding edit_call
  pass = passes (first store_order (edit_lines s area offset bytes boards)) s area [] (edit_done s area offset bytes boards) ok

  pub is-done : edit_call s area offset bytes boards ≡ edit_done s area offset bytes boards
  unfolding edit_call
  is-done = settle-pass _ _ _ pass

  f : Reads s (length area) s.sizes.k boards
  f = (edit-facts s area offset bytes boards pass).0

  g : Sound s
  g = sound-facts s f.is-sound

  T : Demand2 s.sizes s.points
  T = demand-2 s.sizes s.points g.is-legal (sound-points s g)

  abbrev old : List ℕ
  old = file_of (file_held s area boards)

  abbrev made : ℕ → List ℕ
  made = edited_share s area old offset bytes

  -- the file that is held has the length that the record tells
  held-file : file_held s area boards ≡ some old
  held-file = found (file_held s area boards) (edit-facts s area offset bytes boards pass).2

  old-long : length old ≡ s.length
  unfolding read_file
  old-long =
      go (same (shares s.sizes s.points file boards) (joined (held s area) boards)) (edit-facts s area offset bytes boards pass).2
    where
      file : List ℕ
      file = decoded_file s.sizes s.points s.length boards (joined (held s area) boards)

      go : (t : Bool) → given (pick t (some file) none) ≡ true → length (file_of (pick t (some file) none)) ≡ s.length
      go true e = T.decoded-length s.length boards (joined (held s area) boards) f.count
      go false e = absurd (true-false e refl)

  abbrev new : List ℕ
  new = put old offset bytes

  fits : offset + length bytes ≤ length old
  fits = omega (arith, old-long, (edit-facts s area offset bytes boards pass).1)

  new-long : length new ≡ length old
  new-long = length-put old offset bytes fits

  share-long : (file : List ℕ) → length file ≡ length old → (i : ℕ) → length (share s.sizes s.points file i) ≡ used_len s
  share-long file e i = T.share-length file i ∙ ap (λ (m : ℕ). stripes s.sizes m * α s.sizes) (e ∙ old-long)

  change-long : (i : ℕ) → length (share s.sizes s.points (plus old new) i) ≡ used_len s
  change-long = share-long (plus old new) (length-plus old new (sym new-long))

  made-long : (i : ℕ) → length (made i) ≡ used_len s
  made-long i =
      length-plus-short (held s area i) (share s.sizes s.points (plus old new) i)
      (omega (arith, change-long i, take_short (used_len s) (drop (i * part_len s) area))) ∙ change-long i

  on-low : (i : ℕ) → in_service s i ≡ true → i < s.sizes.n
  on-low i e = on_below s.sizes.n s.marks i g.beyond e

  on-listed : (i : ℕ) → in_service s i ≡ true → among (serving s) i ≡ true
  on-listed i e = serving-has s i (on-low i e) e

  is-given : (i : ℕ) → in_service s i ≡ true → held s (edit_call s area offset bytes boards).area i ≡ made i
  is-given i e =
      ap (λ (o : StoreOutcome). held s o.area i) is-done
      ∙ shares-same s made (used_len s) made-long (used-fits s g) (serving s) area f.area-is (serving-low s) i (on-listed i e)

  held-long : (i : ℕ) → in_service s i ≡ true → length (held s area i) ≡ used_len s
  held-long i e =
      length-take-le (used_len s) (drop (i * part_len s) area)
      (rw length-drop (omega (arith, part_end i (part_len s) s.sizes.n (on-low i e), f.area-is, used-fits s g)))

  -- ---- stripes that are not reached

  -- such a stripe of the file stays
  same-stripe : (t : ℕ) → (Reached s offset bytes t → ⊥) → stripe s.sizes new t ≡ stripe s.sizes old t
  same-stripe t un =
      ext_get_or 0 _ _ (T.stripe-length new t ∙ sym (T.stripe-length old t))
      (λ u h. let k : u < B s.sizes = omega (arith, h, T.stripe-length new t) in
      T.stripe-place new t u k ∙ same_byte u k ∙ sym (T.stripe-place old t u k))
    where
      same_byte : (u : ℕ) → u < B s.sizes → get_or new (t * B s.sizes + u) 0 ≡ get_or old (t * B s.sizes + u) 0
      same_byte u k = go (dec_lt (t * B s.sizes + u) offset) (dec_lt (t * B s.sizes + u) (offset + length bytes))
        where
          go : Dec (t * B s.sizes + u < offset) → Dec (t * B s.sizes + u < offset + length bytes)
              → get_or new (t * B s.sizes + u) 0 ≡ get_or old (t * B s.sizes + u) 0
          go (yes a) b = byte-before old offset bytes fits (t * B s.sizes + u) a
          go (no a) (yes b) = absurd (un (omega arith, omega (arith, suc-mul t (B s.sizes)), omega arith))
          go (no a) (no b) = byte-after old offset bytes fits (t * B s.sizes + u) (omega arith)

  -- byte q of stripe t of a share
  share-at : (file : List ℕ) → length file ≡ length old → (i t q : ℕ) → t < stripe_count s → q < α s.sizes
      → get_or (share s.sizes s.points file i) (t * α s.sizes + q) 0 ≡ get_or (kept s.sizes s.points (stripe s.sizes file t) i) q 0
  unfolding share
  share-at file e i t q ht hq =
      let n : stripes s.sizes (length file) ≡ stripe_count s = ap (stripes s.sizes) (e ∙ old-long) in
      sym (piece-at (α s.sizes) t (share s.sizes s.points file i) q 0 hq)
      ∙ ap (λ (l : List ℕ). get_or l q 0)
      (piece-join (stripes s.sizes (length file)) (α s.sizes) (λ s₂. kept s.sizes s.points (stripe s.sizes file s₂) i)
      (λ s₂ l. length-kept s.sizes s.points (legal-facts s.sizes g.is-legal) (stripe s.sizes file s₂) i) t (omega (arith, n, ht)))

  stripe-bytes : (i t q : ℕ) → (Reached s offset bytes t → ⊥) → t < stripe_count s → q < α s.sizes
      → get_or (made i) (t * α s.sizes + q) 0 ≡ get_or (held s area i) (t * α s.sizes + q) 0
  stripe-bytes i t q un ht hq =
      let at : ℕ = t * α s.sizes + q in
      let x = share-at old refl i t q ht hq in
      let y : get_or (share s.sizes s.points new i) (t * α s.sizes + q) 0 ≡ get_or (kept s.sizes s.points (stripe s.sizes old t) i) q 0 =
      share-at new new-long i t q ht hq ∙ ap (λ (u : List ℕ). get_or (kept s.sizes s.points u i) q 0) (same-stripe t un) in
      plus-at (held s area i) (share s.sizes s.points (plus old new) i) at
      ∙ ap (λ (c : ℕ). add (get_or (held s area i) at 0) c)
      (ap (λ (l : List ℕ). get_or l at 0) (T.shares-add old new (sym new-long) i)
      ∙ plus-at (share s.sizes s.points old i) (share s.sizes s.points new i) at
      ∙ ap₂ add x y)
      ∙ add-both (get_or (held s area i) at 0) (get_or (kept s.sizes s.points (stripe s.sizes old t) i) q 0)

  stripes-stay : (i t : ℕ) → in_service s i ≡ true → t < stripe_count s → (Reached s offset bytes t → ⊥)
      → piece (α s.sizes) t (held s (edit_call s area offset bytes boards).area i) ≡ piece (α s.sizes) t (held s area i)
  stripes-stay i t e ht un =
      let k : t * α s.sizes + α s.sizes ≤ used_len s = part_end t (α s.sizes) (stripe_count s) ht in
      let l1 : length (piece (α s.sizes) t (made i)) ≡ α s.sizes = length-piece (α s.sizes) t (made i) (omega (arith, k, made-long i)) in
      let l2 : length (piece (α s.sizes) t (held s area i)) ≡ α s.sizes = length-piece (α s.sizes) t (held s area i) (omega (arith, k, held-long i e)) in
      ap (piece (α s.sizes) t) (is-given i e)
      ∙ ext_get_or 0 _ _ (l1 ∙ sym l2)
      (λ q h. let hq : q < α s.sizes = omega (arith, h, l1) in
      piece-at (α s.sizes) t (made i) q 0 hq ∙ stripe-bytes i t q un ht hq ∙ sym (piece-at (α s.sizes) t (held s area i) q 0 hq))

  -- ---- the file that the boards hold

  is-old : (file : List ℕ) → Bytes area → length file ≡ s.length → Bytes file → All (λ i. held s area i ≡ share s.sizes s.points file i) boards
      → file_held s area boards ≡ some file
  unfolding shares
  is-old file ba l bf a =
      (T.read-file s.length boards (joined (held s area) boards) file
      (joined_bytes (held s area) boards
      (among-all (λ i. Bytes (held s area i)) boards (λ i e. take-alls (λ a. a < 256) (used_len s) _ (drop-alls (λ a. a < 256) (i * part_len s) area ba))))
      (f.count, f.named-below, f.all-different)).1 (l, bf, sym (joined-all (held s area) (share s.sizes s.points file) boards a))

  edited : Edited s area offset bytes boards
  edited = record {
    has = λ file ba l bf a i e. is-given i e ∙ ap (λ (o : Option (List ℕ)). edited_share s area (file_of o) offset bytes i) (is-old file ba l bf a);
    stripes-stay = stripes-stay;
    as_long = ap (λ (o : StoreOutcome). length o.area) is-done
        ∙ length-shares s made (used_len s) made-long (used-fits s g) (serving s) area f.area-is (serving-low s);
    others-stay = λ p out. ap (λ (o : StoreOutcome). get_or o.area p 0) is-done
        ∙ byte-stays s made (used_len s) made-long (used-fits s g) (serving s) area f.area-is (serving-low s) p (λ i a. out i (serving-is s i a));
  }

-- ---- an edit of no bytes

module _ (s : Record) (area : List ℕ) (offset : ℕ) (boards : List ℕ) (ok : (edit_call s area offset [] boards).answer.refusal ≡ 0) where
  fact : Reads s (length area) s.sizes.k boards
  fact = f s area offset [] boards ok

  known : Sound s
  known = g s area offset [] boards ok

  -- what each board is given is what it holds
  nothing : (i : ℕ) → in_service s i ≡ true → made s area offset [] boards ok i ≡ held s area i
  nothing i e =
      let o : List ℕ = file_of (file_held s area boards) in
      ap (λ (l : List ℕ). plus (held s area i) (share s.sizes s.points (plus o l) i)) (put-none o offset)
      ∙ ap (plus (held s area i)) ((T s area offset [] boards ok).shares-add o o refl i)
      ∙ plus-both (held s area i) (share s.sizes s.points o i) (held-long s area offset [] boards ok i e ∙ sym (share-long s area offset [] boards ok o refl i))

  all_same : (l : List ℕ) → All (λ i. (i < s.sizes.n) × (in_service s i ≡ true)) l → put_shares s (made s area offset [] boards ok) l area ≡ area
  all_same [] h = refl
  all_same (i ∷ l) h =
      ap (λ (b : List ℕ). put_shares s (made s area offset [] boards ok) l (put area (i * part_len s) b)) (nothing i h.0.1)
      ∙ ap (put_shares s (made s area offset [] boards ok) l)
      (put-again area (i * part_len s) (used_len s) (omega (arith, part_end i (part_len s) s.sizes.n h.0.0, fact.area-is, used-fits s known)))
      ∙ all_same l h.1

  no_bytes : edit_call s area offset [] boards ≡ accepted 0 s area []
  no_bytes = is-done s area offset [] boards ok ∙ ap (λ (a : List ℕ). accepted 0 s a []) (all_same (serving s) (serving-on s))

pub edit-laws : EditLaws
edit-laws = record { edited = edited; no_bytes = no_bytes }
