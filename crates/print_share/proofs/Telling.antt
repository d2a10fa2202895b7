-- What is written of the calls' answers.
-- Assumes nothing.
use mathlib.Core.Path.{◌≡◌, refl, sym, ap, ap₂, ◌∙◌}
use mathlib.Core.Bool.{Bool, true, false}
use mathlib.Core.List.{List, [], ◌∷◌}
use Prim.Native.Nat.{ℕ, ◌+◌, ◌*◌, ◌≤◌, ◌<◌}
use native.Mathlib.Nat.{zero-add}
use native.Mathlib.Omega.{arith}
use lib.Dec.{ltb, eqb}
use lib.ListN.{length, take, drop, length-append}
use lib.Seq.{take_at, length-take-le}
use borrow.Author.Tests.{ltb-false, lt-ltb, le-ltb, eq-eqb}
use Rattle.lists.specs.Tests.{pick}
use Rattle.lists.specs.Lists.{over}
use Rattle.lists.proofs.Tests.{not-no}
use Rattle.lists.proofs.Boards.{below_all}
use Rattle.sizes.specs.declared.Sizes.{Sizes}
use Rattle.sizes.specs.declared.Refusal.{Refusal}
use Rattle.sizes.specs.declared.Refusal.TheVariants.{Size, Long, Node, Short}
use Rattle.std.specs.Prelude.{Ok, Err}
use Rattle.sizes.specs.Sizing.{legal, α, B, stripes}
use Rattle.sizes.specs.Refusals.{number, first, board_order, Check}
use Rattle.sizes.proofs.Legal.{legal-facts}
use Rattle.sizes.proofs.Laws.{number-low}
use Rattle.sizes.proofs.Orders.{clear-off}
use Rattle.mbcr.specs.Share.{pointed, share}
use Rattle.mbcr.proofs.Repair.{length-share}
use Rattle.board_spec.specs.Text.{decimal, share_text}
use Rattle.board_spec.specs.Calls.{BoardOutcome, settled, share_lines, share_call, text_lines, text_call}
use Rattle.board_spec.proofs.Runs.{size-facts}
use Rattle.text_lines.specs.Steps.{Wrote}
use Rattle.text_lines.proofs.Lines.{length-line, from_start}
use Rattle.board_lines.specs.Outcomes.{outcome}
use Rattle.printer.specs.declared.Parser.{Parser}
use Rattle.printer.specs.Printer.{refused_line, max_file, told, shared}
use Rattle.printer.specs.Steps.{accepted, in_file, sizes_read, points_read, refusal_of, decided}
use Rattle.number_lines.proofs.Picks.{if-eq, if-ne, if-lt, if-le}
use Rattle.printer.proofs.Near.{both}
use Rattle.printer.proofs.Room.{any-room}
use Rattle.print_share.specs.Steps.{Written, placed, wrote_in, to_write}
use Rattle.print_share.proofs.Rooms.{share-room}

-- ---- bytes where there is room for them, and where there is none

pub fits : {a l l1 : List ℕ} {e : ℕ} → 0 + length a ≤ length l → Wrote l 0 a l1 e → record { count = e; out = l1 } ≡ placed a l
fits {a} {l} h w =
    ap₂ {C = Written} (λ n m. record { count = n; out = m }) (w.ends ∙ zero-add (length a)) (from_start w) ∙ sym (if-le (length l) (length a) _ _ (omega arith))

pub no-room : (a l : List ℕ) → length l < length a → record { count = 0; out = l } ≡ placed a l
no-room a l h = sym (if-lt (length l) (length a) _ _ h)

-- the line of a refusal has nine bytes and the digits
pub line-length : (x : ℕ) → length (refused_line x) ≡ 9 + length (decimal x)
line-length x = length-line (0x72 ∷ 0x65 ∷ 0x66 ∷ 0x75 ∷ 0x73 ∷ 0x65 ∷ 0x64 ∷ []) (decimal x) ∙ omega arith

pub nothing : (l : List ℕ) → record { count = 0; out = l } ≡ placed [] l
nothing l = go (ltb (length l) 0)
  where
    go : (t : Bool) → ◌≡◌ {A = Written} (record { count = 0; out = l }) (pick t (record { count = 0; out = l }) (record { count = 0; out = l }))
    go true = refl
    go false = refl

-- ---- the calls

-- a call that no line but SHORT can refuse
settled-written : (t : Bool) (bytes l : List ℕ)
    → wrote_in (settled (pick t (Err Short) (Ok tt)) bytes l) ≡ pick t (record { count = 0; out = l }) (record { count = length bytes; out = over bytes l })
settled-written true bytes l = refl
settled-written false bytes l = refl

-- what a call that is done wrote
done-taken : (n : ℕ) (bytes l after : List ℕ) → outcome (Ok n) after ≡ settled (Ok tt) bytes l → (take n after ≡ bytes) × (n ≤ length after)
done-taken n bytes l after q =
    let n-is : n ≡ length bytes = ap (λ (o : BoardOutcome). o.answer.reported) q in
    let a-is : after ≡ over bytes l = ap (λ (o : BoardOutcome). o.output) q in
    (ap (take n) a-is ∙ take_at bytes _ n (sym n-is), omega (arith, n-is, ap length a-is, length-append bytes (drop (length bytes) l)))

module _ (z : Sizes) (xs : List ℕ) (L node : ℕ) (held l : List ℕ) where
  text-first : legal z ≡ true → pointed z xs ≡ true → ltb (4096 * B z) L ≡ false → ltb node z.n ≡ true → eqb (length held) (stripes z L * α z) ≡ true
      → first board_order (text_lines z xs L node held l) ≡ pick (ltb (length l) (length (share_text z xs L node held))) (Err Short) (Ok tt)
  unfolding text_lines
  text-first a o b c d = rw (a, o, b, c, d)

  text-written : first board_order (text_lines z xs L node held l) ≡ pick (ltb (length l) (length (share_text z xs L node held))) (Err Short) (Ok tt)
      → wrote_in (text_call z xs L node held l) ≡ placed (share_text z xs L node held) l
  unfolding text_call
  text-written e =
      ap (λ (c : Check). wrote_in (settled c (share_text z xs L node held) l)) e
      ∙ settled-written (ltb (length l) (length (share_text z xs L node held))) (share_text z xs L node held) l

-- the share of a file
module _ (z : Sizes) (xs : List ℕ) (node : ℕ) (file area : List ℕ) where
  module _ (v : ℕ) (after : List ℕ) where
    passing : (c : Check) → first board_order (share_lines z xs node file area) ≡ c → outcome (Ok v) after ≡ settled c (share z xs file node) area
        → (v ≤ length after)
        × ((l : List ℕ) → wrote_in (text_call z xs (length file) node (take v after) l) ≡ placed (share_text z xs (length file) node (take v after)) l)
    unfolding share_lines
    passing (Err x) p e = absurd (omega (arith, number-low x, ap (λ (o : BoardOutcome). o.answer.refusal) e))
    passing (Ok tt) p e =
        let d = done-taken v (share z xs file node) area after e in
        let off = clear-off (share_lines z xs node file area) board_order p in
        let ok = size-facts z xs (off Size refl) in
        let known = lt-ltb node z.n (below_all z.n (node ∷ []) (not-no _ (off Node refl))).0 in
        let whole = eq-eqb _ _ (ap length d.0 ∙ length-share z xs (legal-facts z ok.0) file node) in
        (d.1, λ l. text-written z xs (length file) node (take v after) l (text-first z xs (length file) node (take v after) l ok.0 ok.1 (off Long refl) known whole))

    -- that it is done leaves only room to ask of the text
    pub share-done : outcome (Ok v) after ≡ share_call z xs node file area
        → (v ≤ length after)
        × ((l : List ℕ) → wrote_in (text_call z xs (length file) node (take v after) l) ≡ placed (told z xs (length file) node (share_call z xs node file area)) l)
    unfolding share_call
    share-done e =
        let d = passing (first board_order (share_lines z xs node file area)) refl e in
        (d.0, λ l. d.1 l ∙ ap (λ (o : BoardOutcome). placed (told z xs (length file) node o) l) e)

  pub share-refused : (x : Refusal) (after : List ℕ) → outcome (Err x) after ≡ share_call z xs node file area
      → refused_line (number x) ≡ told z xs (length file) node (share_call z xs node file area)
  share-refused x after e =
      sym (if-ne (number x) 0 _ _ (λ q. omega (arith, number-low x))) ∙ ap (told z xs (length file) node) e

-- ---- the parser

-- no line, no sizes, no points and no length cause a refusal
pub record Whole (p : Parser) : Type 0 where
  pub is-legal : legal (sizes_read p) ≡ true
  pub is-pointed : pointed (sizes_read p) (points_read p) ≡ true
  pub few : p.count ≤ 16384

pub none-refused : (p : Parser) → refusal_of p ≡ 0 → Whole p
none-refused p e = go p.bad (in_file p) (accepted (sizes_read p) (points_read p)) (ltb max_file p.count) refl refl e
  where
    go : (b l g t : Bool) → accepted (sizes_read p) (points_read p) ≡ g → ltb max_file p.count ≡ t → pick {A = ℕ} b 1 (pick l (pick g (pick t 3 0) 1) 1) ≡ 0 → Whole p
    go true l g t q s e = absurd (omega arith)
    go false false g t q s e = absurd (omega arith)
    go false true false t q s e = absurd (omega arith)
    go false true true true q s e = absurd (omega arith)
    go false true true false q s e =
        let h = both (sizes_read p) (points_read p) q in
        record { is-legal = h.0; is-pointed = h.1; few = ltb-false max_file p.count s }

module _ (p : Parser) (file : List ℕ) where
  abbrev kept : List ℕ
  kept = take p.count file

  pub output-refused : (refusal_of p ≡ 0 → ⊥) → to_write p file ≡ refused_line (refusal_of p)
  unfolding decided
  output-refused e = rw (if-ne {A = Bool} (refusal_of p) 0 (ltb (length file) p.count) false e) (if-ne (refusal_of p) 0 _ _ e)

  module _ (e : refusal_of p ≡ 0) where
    pub output-lacks : length file < p.count → to_write p file ≡ []
    output-lacks h =
        ap (λ (t : Bool). pick t [] (decided p kept)) (if-eq {A = Bool} (refusal_of p) 0 (ltb (length file) p.count) false e ∙ lt-ltb (length file) p.count h)

    pub output-whole : p.count ≤ length file → to_write p file ≡ shared (sizes_read p) (points_read p) p.node kept
    unfolding decided
    output-whole h =
        ap (λ (t : Bool). pick t [] (decided p kept)) (if-eq {A = Bool} (refusal_of p) 0 (ltb (length file) p.count) false e ∙ le-ltb (length file) p.count h)
        ∙ if-eq (refusal_of p) 0 _ _ e

    -- by any area with room for the share of a file that the printer takes
    pub output-told : p.count ≤ length file → (area : List ℕ) → length area ≡ 17376
        → to_write p file ≡ told (sizes_read p) (points_read p) (length kept) p.node (share_call (sizes_read p) (points_read p) p.node kept area)
    output-told h area room =
        let n = none-refused p e in
        let few : length kept ≤ 16384 = omega (arith, length-take-le p.count file h, n.few) in
        output-whole h
        ∙ any-room (sizes_read p) (points_read p) p.node kept area (omega (arith, share-room (sizes_read p) (legal-facts (sizes_read p) n.is-legal) (length kept) few))
