-- Bytes written one after another: what is written behind the first piece makes one piece with it.
-- Assumes nothing.
use mathlib.Core.Path.{◌≡◌, refl, sym, ap, ap₂, ◌∙◌}
use mathlib.Core.List.{List, [], ◌∷◌, ◌++◌, append-nil, append_assoc}
use Prim.Native.Nat.{ℕ, ◌+◌, ◌*◌, ◌/◌, ◌%◌, ◌-◌, ◌≤◌, ◌<◌}
use native.Mathlib.Numerals.{add-one}
use native.Mathlib.Nat.{add-zero}
use native.Mathlib.Omega.{arith}
use lib.ListN.{length, take, drop, get_or, set, length-append, take-append-drop}
use lib.Seq.{drop-drop, sets-eq, take-suc, length-take-le}
use borrow.Rule.Slice.PartMut.{put_mid}
use Rattle.lists.specs.Lists.{put, joined}
use Rattle.lists.proofs.Put.{length-put, put-append}
use Rattle.lists.proofs.Pieces.{length-joined}
use Rattle.board_spec.specs.Text.{hex_digit, hex_pair}
use Rattle.text_lines.specs.Steps.{Wrote}

-- no byte
pub none : (l : List ℕ) (at : ℕ) → Wrote l at [] l at
unfolding put
none l at = record {
  written = sym (rw (add-zero at, append-nil (take at l)) (take-append-drop at l));
  ends = sym (add-zero at);
}

-- one byte
pub one : (l : List ℕ) (at v : ℕ) → at + 1 ≤ length l → Wrote l at (v ∷ []) (set l at v) (at + 1)
unfolding put
one l at v h = record { written = sets-eq (v ∷ []) l at h; ends = refl }

module _ {l l1 a : List ℕ} {at e : ℕ} (w : Wrote l at a l1 e) where
  pub same-room : at + length a ≤ length l → length l1 ≡ length l
  same-room h = ap length w.written ∙ length-put l at a h

  -- there is room for another piece behind it
  pub room : (b : List ℕ) → at + length (a ++ b) ≤ length l → e + length b ≤ length l1
  room b h = let n = length-append a b in omega (arith, w.ends, same-room (omega arith))

  pub then : {l2 b : List ℕ} {e2 : ℕ} → Wrote l1 e b l2 e2 → at + length (a ++ b) ≤ length l → Wrote l at (a ++ b) l2 e2
  then {b = b} v h =
      let n = length-append a b in
      record {
        written = v.written ∙ ap₂ (λ (x : List ℕ) (p : ℕ). put x p b) w.written w.ends ∙ sym (put-append l at a b (omega arith));
        ends = omega (arith, v.ends, w.ends);
      }

  -- another byte behind it
  pub more : (v : ℕ) → at + length (a ++ (v ∷ [])) ≤ length l → Wrote l at (a ++ (v ∷ [])) (set l1 e v) (e + 1)
  more v h = then (one l1 e v (room (v ∷ []) h)) h

-- where there is room for two pieces, there is for the first
pub less : (a b : List ℕ) (at m : ℕ) → at + length (a ++ b) ≤ m → at + length a ≤ m
less a b at m h = omega (arith, length-append a b)

-- a part that is written anew
pub part : (l ys bytes : List ℕ) (at : ℕ) → ys ≡ bytes → Wrote l at bytes (put_mid at (at + length bytes - at) l ys) (at + length bytes)
unfolding put
part l ys bytes at e =
    let k : at + length bytes - at ≡ length bytes = omega arith in
    record {
      written = ap₂ (λ (v : ℕ) (b : List ℕ). put_mid at v l b) k e
          ∙ sym (append_assoc (take at l) bytes (drop (length bytes) (drop at l)))
          ∙ ap (λ (r : List ℕ). (take at l ++ bytes) ++ r) (drop-drop (length bytes) at l);
      ends = refl;
    }

pub length_pairs : (share : List ℕ) → length (joined hex_pair share) ≡ length share * 2
length_pairs = length-joined 2 hex_pair (λ x. refl)

joined-more : (f : ℕ → List ℕ) (l : List ℕ) (x : ℕ) → joined f (l ++ (x ∷ [])) ≡ joined f l ++ f x
joined-more f [] x = append-nil (f x)
joined-more f (y ∷ l) x = ap (λ (m : List ℕ). f y ++ m) (joined-more f l x) ∙ sym (append_assoc (f y) (joined f l) (f x))

-- a turn of the loop over the bytes of a share
pub pair_turn : {l l1 : List ℕ} {at p : ℕ} (share : List ℕ) (t u v : ℕ) → t < length share → at + length (joined hex_pair share) ≤ length l
    → u ≡ hex_digit (get_or share t 0 / 16) → v ≡ hex_digit (get_or share t 0 % 16) → Wrote l at (joined hex_pair (take t share)) l1 p
    → Wrote l at (joined hex_pair (take (t + 1) share)) (set (set l1 p u) (p + 1) v) (p + 2)
pair_turn share t u v h k eu ev w =
    let n = length_pairs share in
    let m = length_pairs (take t share) in
    let o : length (take t share) ≡ t = length-take-le t share (omega arith) in
    let s = length-append (joined hex_pair (take t share)) (u ∷ []) in
    let q = length-append (joined hex_pair (take t share) ++ (u ∷ [])) (v ∷ []) in
    let x = more (more w u (omega arith)) v (omega arith) in
    rw (add-one t, take-suc share t 0, joined-more hex_pair (take t share) (get_or share t 0), ← eu, ← ev)
    (record {
      written = x.written ∙ ap (put _ _) (append_assoc (joined hex_pair (take t share)) (u ∷ []) (v ∷ []));
      ends = omega (arith, w.ends, length-append (joined hex_pair (take t share)) (u ∷ v ∷ []));
    })
