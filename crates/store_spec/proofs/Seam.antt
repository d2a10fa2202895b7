-- The seam between the algebra and the proof of demand 3: the laws of the code that demand 3 rests on. The proof of demand 3 uses these and
-- knows no polynomial.
-- Assumes nothing.
use Prim.Native.Nat.{ℕ, ◌-◌, ◌*◌, ◌≤◌}
use mathlib.Core.Path.{◌≡◌}
use mathlib.Core.Bool.{true}
use mathlib.Core.List.{List, ◌++◌}
use mathlib.Core.Option.{some}
use lib.ListN.{length}
use Rattle.lists.specs.Lists.{Bytes, joined, without}
use Rattle.lists.specs.Tests.{below, different, among, apart}
use Rattle.sizes.specs.Sizing.{legal, stripes, α}
use Rattle.sizes.specs.declared.Sizes.{Sizes}
use Rattle.polynomial.specs.Polynomial.{plus}
use Rattle.mbcr.specs.Read.{read_file}
use Rattle.mbcr.specs.Rebuild.{helper_packet, stand_in_packet, exchange_packet, finished_share}
use Rattle.mbcr.specs.Share.{DifferentPoints, share}

-- Who hears whom: at most r different fresh boards, and for each its own d helpers and r − t stand-ins, all different and none of them fresh.
pub record Hears (z : Sizes) (fresh : List ℕ) (helpers stand_ins : ℕ → List ℕ) : Type 0 where
  pub few-fresh : length fresh ≤ z.r
  pub fresh-below : below z.n fresh ≡ true
  pub fresh-different : different fresh ≡ true
  pub count : (i : ℕ) → among fresh i ≡ true → length (helpers i) ≡ z.d
  pub stand-in-count : (i : ℕ) → among fresh i ≡ true → length (stand_ins i) ≡ z.r - length fresh
  pub named-below : (i : ℕ) → among fresh i ≡ true → below z.n (helpers i ++ stand_ins i) ≡ true
  pub named-different : (i : ℕ) → among fresh i ≡ true → different (helpers i ++ stand_ins i) ≡ true
  pub none-fresh : (i : ℕ) → among fresh i ≡ true → apart fresh (helpers i ++ stand_ins i) ≡ true

-- Five lengths.
pub record Lengths (xs : List ℕ) (z : Sizes) : Type 0 where
  pub share-length : (file : List ℕ) (i : ℕ) → length (share z xs file i) ≡ stripes z (length file) * α z
  pub helper-length : (S j i : ℕ) (own : List ℕ) → length (helper_packet z xs S j i own) ≡ 2 * S
  pub stand-in-length : (S j i : ℕ) (own : List ℕ) → length (stand_in_packet z xs S j i own) ≡ S
  pub exchange-length : (S : ℕ) (helpers packets : List ℕ) (m : ℕ) → length (exchange_packet z xs S helpers packets m) ≡ S
  pub finished-length : (S i : ℕ) (helpers packets partners exchanges : List ℕ) → length (finished_share z xs S i helpers packets partners exchanges) ≡ S * α z

-- True shares rebuild and read truly.
pub record Laws (xs : List ℕ) (z : Sizes) : Type 0 where
  pub lengths : Lengths xs z
  -- the finished share of packets that were made from true shares is the true share
  pub rebuilt : (file : List ℕ) → Bytes file → (fresh : List ℕ) (helpers stand_ins : ℕ → List ℕ) → Hears z fresh helpers stand_ins
      → (i : ℕ) → among fresh i ≡ true
      → finished_share z xs (stripes z (length file)) i (helpers i)
      (joined (λ j. helper_packet z xs (stripes z (length file)) j i (share z xs file j)) (helpers i))
      (stand_ins i ++ without i fresh)
      (joined (λ j. stand_in_packet z xs (stripes z (length file)) j i (share z xs file j)) (stand_ins i)
      ++ joined
      (λ m. exchange_packet z xs (stripes z (length file)) (helpers m)
      (joined (λ j. helper_packet z xs (stripes z (length file)) j m (share z xs file j)) (helpers m)) i)
      (without i fresh))
      ≡ share z xs file i
  -- the true shares of k different boards read as the file
  pub reads : (file : List ℕ) → Bytes file → (boards : List ℕ)
      → length boards ≡ z.k → below z.n boards ≡ true → different boards ≡ true
      → read_file z xs (length file) boards (joined (share z xs file) boards) ≡ some file
  -- shares add like files
  pub adds : (file file' : List ℕ) → length file ≡ length file' → (i : ℕ) → share z xs (plus file file') i ≡ plus (share z xs file i) (share z xs file' i)

-- at all legal sizes and different points
abbrev pub AllLaws : Type 0
AllLaws = (xs : List ℕ) (z : Sizes) → legal z ≡ true → DifferentPoints z xs → Laws xs z
