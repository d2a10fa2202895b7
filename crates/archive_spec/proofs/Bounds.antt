-- What the calls report is small: the lines SIZE and LONG, and a text that is read, leave few stripes, and a stripe is few bytes.
-- Assumes nothing.
use Prim.Native.Nat.{ℕ, ◌*◌, ◌≤◌, ◌<◌}
use mathlib.Core.Path.{◌≡◌, refl, ap}
use mathlib.Core.Bool.{Bool, true, false, not}
use mathlib.Core.Option.{Option, some, none}
use mathlib.Core.List.{List, [], ◌∷◌, ◌++◌}
use native.Mathlib.Nat.{mul-le-mul, mul-le-mul_left, le_trans}
use native.Mathlib.Omega.{arith}
use lib.Dec.{ltb, eqb}
use lib.ListN.{length, take, length-take, length-append}
use lib.Seq.{length-take-le}
use borrow.Author.Tests.{ltb-true, ltb-false, leb-true, eqb-true}
use Rattle.lists.specs.Tests.{pick, alls, same}
use Rattle.lists.specs.Lists.{tabulate, joined}
use Rattle.lists.proofs.Tests.{not-no, alls-hold}
use Rattle.lists.proofs.Boards.{below_all}
use Rattle.sizes.specs.declared.Sizes.{Sizes}
use Rattle.std.specs.Prelude.{Ok, Err}
use Rattle.sizes.specs.declared.Refusal.{Refusal}
use Rattle.sizes.specs.declared.Refusal.TheVariants.{Size, Area, Long, Node}
use Rattle.sizes.specs.Sizing.{legal, α, B, stripes}
use Rattle.sizes.specs.Refusals.{Line, applies_in, first, board_order, Check}
use Rattle.sizes.proofs.Legal.{Legal, legal-facts, stripes-least, B-most, α-most}
use Rattle.sizes.proofs.Orders.{stands, clear-off}
use Rattle.mbcr.specs.Share.{pointed, share, shares}
use Rattle.mbcr.specs.Rebuild.{helper_packet, exchange_packet, finished_share}
use Rattle.mbcr.specs.Read.{decoded_file, read_file}
use Rattle.mbcr.proofs.Repair.{length-share, length-packet, length-exchange, length-finished}
use Rattle.board_spec.specs.Text.{hex_pair, text_line, points_line, share_text}
use Rattle.board_spec.specs.Calls.{settled, file_of, share_lines, share_call, file_lines, file_call, helper_lines, helper_call}
use Rattle.board_spec.specs.Calls.{exchange_lines, exchange_call, finished_lines, finished_call, text_lines, text_call}
use Rattle.text_lines.proofs.Decimals.{decimal-most}
use Rattle.text_lines.proofs.Lines.{length-line, length-text}
use Rattle.text_lines.proofs.Writes.{length_pairs}
use Rattle.text_spec.specs.Texts.{ShareTold, writable, read_text, texts_of}
use Rattle.text_spec.specs.Calls.{told_of, read_settled, read_text_lines, read_text_call, texts_told, first_of, nodes_of, shares_of, gathered, gather_lines, gather_call}
use Rattle.text_spec.proofs.Laws.{facts-of, text-told, texts-told}
use Rattle.prefix_spec.specs.Prefix.{longest}
use Rattle.prefix_spec.proofs.Longest.{prefix-laws}

-- what a word has room for above a refusal's number: 2^56
abbrev pub Fits : ℕ → Type 0
Fits v = v < 72057594037927936

-- a refusal reports nothing, so only the bytes of a call that no line stops count
settled-fits : (lines : List Line) (bytes output : List ℕ) → (((x : Refusal) → stands board_order x ≡ true → applies_in lines x ≡ false) → Fits (length bytes))
    → Fits (settled (first board_order lines) bytes output).answer.reported
settled-fits lines bytes output h = go (first board_order lines) refl
  where
    go : (c : Check) → first board_order lines ≡ c → Fits (settled c bytes output).answer.reported
    go (Ok tt) e = h (clear-off lines board_order e)
    go (Err x) e = omega arith

-- what legal sizes and a length that is not LONG leave
record Few (z : Sizes) (L : ℕ) : Type 0 where
  allowed : Legal z
  most-stripes : stripes z L ≤ 4096
  most_bytes : L ≤ 4063232

few-by : (z : Sizes) (L : ℕ) → legal z ≡ true → L ≤ 4096 * B z → Few z L
few-by z L ok h =
    let f = legal-facts z ok in
    record {
      allowed = f;
      most-stripes = stripes-least z f L 4096 h;
      most_bytes = le_trans h (mul-le-mul_left 4096 (B-most z f));
    }

-- by the lines SIZE and LONG
few : (z : Sizes) (xs : List ℕ) (L : ℕ) → not (alls (legal z ∷ pointed z xs ∷ [])) ≡ false → ltb (4096 * B z) L ≡ false → Few z L
few z xs L size long = few-by z L (alls-hold (legal z ∷ pointed z xs ∷ []) (not-no _ size)).0 (ltb-false (4096 * B z) L long)

-- the bytes of a share are few
few-in-share : (z : Sizes) (L : ℕ) → Few z L → stripes z L * α z ≤ 253952
few-in-share z L f = mul-le-mul f.most-stripes (α-most z f.allowed)

-- a file that is found has no more than L bytes
length_found : (t : Bool) (L : ℕ) (l : List ℕ) → length (file_of (pick t (some (take L l)) none)) ≤ L
length_found true L l = simp length-take (omega arith)
length_found false L l = omega arith

length-file : (z : Sizes) (xs : List ℕ) (L : ℕ) (boards held : List ℕ) → length (file_of (read_file z xs L boards held)) ≤ L
unfolding read_file decoded_file
length-file z xs L boards held = length_found (same (shares z xs (decoded_file z xs L boards held) boards) held) L _

-- the line of points is few bytes
said-few : (t : Bool) (l : List ℕ) → length (pick t [] l) ≤ length l
said-few true l = omega arith
said-few false l = omega arith

line-few : (z : Sizes) (xs : List ℕ) → z.n ≤ 32 → length (points_line z xs) ≤ 72
unfolding points_line
line-few z xs h =
    let l : List ℕ = text_line (0x70 ∷ 0x6F ∷ 0x69 ∷ 0x6E ∷ 0x74 ∷ 0x73 ∷ []) (joined hex_pair (take z.n xs)) in
    let a = said-few (same (take z.n xs) (tabulate z.n (λ i. i))) l in
    omega (arith, a, length-line (0x70 ∷ 0x6F ∷ 0x69 ∷ 0x6E ∷ 0x74 ∷ 0x73 ∷ []) (joined hex_pair (take z.n xs)), length_pairs (take z.n xs), length-take z.n xs)

-- the text is few bytes
text-few : (z : Sizes) (xs : List ℕ) (L node : ℕ) (held : List ℕ) → Few z L → node < z.n → length held ≡ stripes z L * α z → Fits (length (share_text z xs L node held))
text-few z xs L node held f h e =
    let m = few-in-share z L f in
    let g = f.allowed in
    omega (
      arith,
      length-text z xs L node held,
      line-few z xs g.few,
      decimal-most z.n,
      decimal-most z.k,
      decimal-most z.d,
      decimal-most z.r,
      decimal-most node,
      decimal-most L,
      f.most_bytes,
      g.some_read,
      g.read-helpers,
      g.some-fresh,
      g.enough,
      g.few,
    )

module _ (z : Sizes) (xs : List ℕ) where
  pub share-fits : (node : ℕ) (file output : List ℕ) → Fits (share_call z xs node file output).answer.reported
  unfolding share_lines share_call
  share-fits node file output = settled-fits (share_lines z xs node file output) (share z xs file node) output (λ off.
      let f = few z xs (length file) (off Size refl) (off Long refl) in
      omega (arith, length-share z xs f.allowed file node, few-in-share z (length file) f))

  pub file-fits : (L : ℕ) (boards held output : List ℕ) → Fits (file_call z xs L boards held output).answer.reported
  unfolding file_lines file_call
  file-fits L boards held output = settled-fits (file_lines z xs L boards held output) (file_of (read_file z xs L boards held)) output (λ off.
      let f = few z xs L (off Size refl) (off Long refl) in
      omega (arith, length-file z xs L boards held, f.most_bytes))

  pub helper-fits : (L helper receiver : ℕ) (held output : List ℕ) → Fits (helper_call z xs L helper receiver held output).answer.reported
  unfolding helper_lines helper_call
  helper-fits L helper receiver held output = settled-fits (helper_lines z xs L helper receiver held output) (helper_packet z xs (stripes z L) helper receiver held) output (λ off.
      let f = few z xs L (off Size refl) (off Long refl) in
      omega (arith, length-packet z xs (stripes z L) helper receiver held, f.most-stripes))

  pub exchange-fits : (L board : ℕ) (helpers packets : List ℕ) (receiver : ℕ) (output : List ℕ)
      → Fits (exchange_call z xs L board helpers packets receiver output).answer.reported
  unfolding exchange_lines exchange_call
  exchange-fits L board helpers packets receiver output =
      settled-fits (exchange_lines z xs L board helpers packets receiver output) (exchange_packet z xs (stripes z L) helpers packets receiver) output (λ off.
      let f = few z xs L (off Size refl) (off Long refl) in
      omega (arith, length-exchange z xs (stripes z L) helpers packets receiver, f.most-stripes))

  pub finished-fits : (L board : ℕ) (helpers packets partners exchanges output : List ℕ)
      → Fits (finished_call z xs L board helpers packets partners exchanges output).answer.reported
  unfolding finished_lines finished_call
  finished-fits L board helpers packets partners exchanges output =
      settled-fits (finished_lines z xs L board helpers packets partners exchanges output)
      (finished_share z xs (stripes z L) board helpers packets partners exchanges) output (λ off.
      let f = few z xs L (off Size refl) (off Long refl) in
      omega (arith, length-finished z xs f.allowed (stripes z L) board helpers packets partners exchanges, few-in-share z L f))

  pub text-fits : (L node : ℕ) (held output : List ℕ) → Fits (text_call z xs L node held output).answer.reported
  unfolding text_lines text_call
  text-fits L node held output = settled-fits (text_lines z xs L node held output) (share_text z xs L node held) output (λ off.
      text-few z xs L node held (few z xs L (off Size refl) (off Long refl))
      (below_all z.n (node ∷ []) (not-no _ (off Node refl))).0
      (eqb-true _ _ (alls-hold (eqb (length held) (stripes z L * α z) ∷ []) (not-no _ (off Area refl))).0))

-- ---- texts

-- what a writable text tells
few-told : (t : ShareTold) → writable t ≡ true → Few t.sizes t.length
few-told t w = let f = facts-of t w in few-by t.sizes t.length f.is-legal (leb-true _ _ f.not-long)

share-told : (text : List ℕ) (o : Option ShareTold) → read_text text ≡ o → length (told_of o).share ≤ 253952
share-told text none e = omega arith
share-told text (some t) e =
    let w = ((text-told text t).0 e).1.0 in
    omega (arith, (facts-of t w).long, few-in-share t.sizes t.length (few-told t w))

pub read-text-fits : (text output : List ℕ) → Fits (read_text_call text output).answer.reported
unfolding read_text_call
read-text-fits text output = go (first board_order (read_text_lines text output))
  where
    go : (c : Check) → Fits (read_settled c (told_of (read_text text)) output).answer.reported
    go (Ok tt) = omega (arith, share-told text (read_text text) refl)
    go (Err x) = omega arith

length-told : (text : List ℕ) (o : Option (List ShareTold)) → texts_of text ≡ o → (first_of (texts_told o)).length ≤ 4063232
length-told text none e = omega arith
length-told text (some []) e = omega arith
length-told text (some (t ∷ ts)) e = (few-told t ((texts-told text (t ∷ ts)).0 e).1.0.0).most_bytes

pub gather-fits : (text output : List ℕ) → Fits (gather_call text output).answer.reported
unfolding gather_lines gather_call gathered
gather-fits text output =
    let ts = texts_told (texts_of text) in
    let t = first_of ts in
    settled-fits (gather_lines text output) (file_of (gathered ts)) output (λ off.
    omega (arith, length-file t.sizes t.points t.length (nodes_of ts) (shares_of ts), length-told text (texts_of text) refl))

-- a beginning of an accepted text is no longer than it
pub prefix-fits : (text : List ℕ) → Fits (longest text)
prefix-fits text =
    let l = (prefix-laws.is-longest text (longest text)).0 refl in
    let p = l.begins in
    let t : ShareTold = p.1 in
    let e = (text-told (take (longest text) text ++ p.0) p.1).0 p.2 in
    let f = facts-of p.1 e.1.0 in
    let few = few-by t.sizes t.length f.is-legal (leb-true _ _ f.not-long) in
    let whole = text-few t.sizes t.points t.length t.node t.share few (ltb-true _ _ f.known) f.long in
    omega (arith, whole, ap length e.0, length-append (take (longest text) text) p.0, length-take-le (longest text) text l.within)
