-- The laws of specs/Laws.antt.
-- Assumes nothing.
use mathlib.Core.Path.{◌≡◌, refl, sym, ap, ◌∙◌}
use mathlib.Core.Bool.{Bool, true, false}
use mathlib.Core.List.{List, []}
use Prim.Native.Nat.{ℕ, ◌*◌, ◌≤◌}
use native.Mathlib.Omega.{arith}
use lib.Dec.{ltb, eqb}
use lib.ListN.{length, take, drop, length-append}
use lib.Seq.{take_at, length-take-le}
use borrow.Author.Tests.{ltb-true, ltb-false, eqb-true, eqb-false}
use Rattle.lists.specs.Tests.{pick}
use Rattle.lists.specs.Lists.{over, concat}
use Rattle.sizes.specs.declared.Sizes.{Sizes}
use Rattle.sizes.specs.Sizing.{legal, B}
use Rattle.sizes.proofs.Legal.{legal-facts}
use Rattle.mbcr.specs.Share.{pointed, share}
use Rattle.mbcr.proofs.PointLaws.{pointed-facts}
use Rattle.mbcr.proofs.Repair.{length-share}
use Rattle.text_lines.proofs.Decimals.{decimal-most}
use Rattle.printer.specs.declared.Parser.{Parser}
use Rattle.printer.specs.Printer.{refused_line, shared}
use Rattle.printer.specs.Steps.{accepted, begin, wrong, in_file, sizes_read, points_read, refusal_of, decided}
use Rattle.printer.proofs.Near.{shared-far}
use Rattle.printer.proofs.Whole.{shared_long, shared-text}
use Rattle.number_lines.proofs.Picks.{if-eq, if-ne, if-le}
use Rattle.printer.proofs.Laws.{printer-laws}
use Rattle.print_feed.specs.Steps.{Feed, feed_all, feed_parts, printed_by}
use Rattle.print_feed.proofs.Laws.{feed-laws}
use Rattle.print_share.specs.Steps.{Written, placed, to_write}
use Rattle.print_share.specs.Laws.{shown, ShareLaws}
use Rattle.print_share.proofs.Rooms.{share-room, text-room}
use Rattle.print_share.proofs.Telling.{line-length, none-refused, output-refused, output-whole}

within : (text out : List ℕ) → (placed text out).count ≤ length (placed text out).out
within text out = go (ltb (length out) (length text))
  where
    go : (t : Bool) → let w = pick {A = Written} t (record { count = 0; out = out }) (record { count = length text; out = over text out }) in w.count ≤ length w.out
    go true = omega arith
    go false = omega (arith, length-append text (drop (length text) out))

whole : (text out : List ℕ) → length text ≤ length out → shown (placed text out) ≡ text
whole text out h = ap shown (if-le (length out) (length text) _ _ h) ∙ take_at text _ _ refl

-- ---- 34,900 bytes are enough

refused-room : (x : ℕ) → x ≤ 300 → length (refused_line x) ≤ 34900
refused-room x h = omega (arith, line-length x, decimal-most x)

shared-room : (z : Sizes) (xs : List ℕ) (node : ℕ) (file : List ℕ) → legal z ≡ true → pointed z xs ≡ true → length file ≤ 16384
    → length (shared z xs node file) ≤ 34900
shared-room z xs node file ok o few = go (ltb (4096 * B z) (length file)) refl (ltb node z.n) refl
  where
    go : (t : Bool) → ltb (4096 * B z) (length file) ≡ t → (u : Bool) → ltb node z.n ≡ u → length (shared z xs node file) ≤ 34900
    go true e u f = omega (arith, ap length (shared_long z xs node file ok o (ltb-true _ _ e)), refused-room 3 (omega arith))
    go false e false f =
        let n = shared-far z xs node file ok o (ltb-false _ _ f) ∙ if-le (4096 * B z) (length file) _ _ (ltb-false _ _ e) in
        omega (arith, ap length n, refused-room 5 (omega arith))
    go false e true f =
        let s = legal-facts z ok in
        let held = share z xs file node in
        let l : length held ≤ 17375 = omega (arith, length-share z xs s file node, share-room z s (length file) few) in
        let p : z.n ≤ length xs = omega (arith, s.few, (pointed-facts z xs s.few o).long) in
        omega (arith, ap length (shared-text z xs node file ok o (ltb-false _ _ e) (ltb-true _ _ f)), text-room z s xs (length file) node held p few (ltb-true _ _ f) l)

-- what is decided has room, and the slice has the whole file
module _ (p : Parser) (file : List ℕ) (n : length file ≡ 16384) where
  high : refusal_of p ≤ 3
  high = go p.bad (in_file p) (accepted (sizes_read p) (points_read p)) (ltb 16384 p.count)
    where
      go : (a b c d : Bool) → pick {A = ℕ} a 1 (pick b (pick c (pick d 3 0) 1) 1) ≤ 3
      go true b c d = omega arith
      go false false c d = omega arith
      go false true false d = omega arith
      go false true true true = omega arith
      go false true true false = omega arith

  given : (to_write p file ≡ decided p (take p.count file)) × (length (to_write p file) ≤ 34900)
  unfolding decided
  given = go (eqb (refusal_of p) 0) refl
    where
      go : (t : Bool) → eqb (refusal_of p) 0 ≡ t → (to_write p file ≡ decided p (take p.count file)) × (length (to_write p file) ≤ 34900)
      go true e =
          let z = eqb-true (refusal_of p) 0 e in
          let f = none-refused p z in
          let w = output-whole p file z (omega (arith, f.few)) in
          let few : length (take p.count file) ≤ 16384 = omega (arith, length-take-le p.count file (omega (arith, f.few)), f.few) in
          let room = shared-room (sizes_read p) (points_read p) p.node (take p.count file) f.is-legal f.is-pointed few in
          (w ∙ sym (if-eq (refusal_of p) 0 _ _ z), omega (arith, ap length w, room))
      go false e =
          let z = eqb-false (refusal_of p) 0 e in
          let w = output-refused p file z in
          (w ∙ sym (if-ne (refusal_of p) 0 _ _ z), omega (arith, ap length w, refused-room (refusal_of p) (omega (arith, high))))

  decides : (out : List ℕ) → length out ≡ 34900 → shown (placed (to_write p file) out) ≡ decided p (take p.count file)
  decides out m = whole (to_write p file) out (omega (arith, given.1)) ∙ given.0

prints : (asked : Bool) (parts : List (List ℕ)) (file out : List ℕ) → length file ≡ 16384 → length out ≡ 34900
    → let s = feed_parts (record { parser = begin asked; file = file }) parts in shown (placed (to_write s.parser s.file) out) ≡ printed_by asked (concat parts)
prints asked parts file out n m =
    let start : Feed = record { parser = begin asked; file = file } in
    let s = feed_all start (concat parts) in
    ap (λ (s : Feed). shown (placed (to_write s.parser s.file) out)) (feed-laws.parts-are-whole start parts)
    ∙ decides s.parser s.file (feed-laws.same_length start (concat parts) ∙ n) out m
    ∙ feed-laws.decides asked file (concat parts) n

pub share_laws : ShareLaws
share_laws = record {
  within = within;
  decides = λ p file out n m. decides p file n out m;
  prints = prints;
  failed-read = λ p file out n m. decides (wrong p) file n out m ∙ printer-laws.failed-read p (take p.count file) [];
}
