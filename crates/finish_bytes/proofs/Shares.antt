-- A share by rows is that of the definition; parts put together.
-- Assumes nothing.
use mathlib.Core.Path.{◌≡◌, refl, ap, ap₂, ◌∙◌}
use mathlib.Core.Bool.{true}
use mathlib.Core.List.{List, [], ◌∷◌, ◌++◌}
use Prim.Native.Nat.{ℕ, ◌+◌, ◌*◌, ◌-◌, ◌<◌, ◌≤◌}
use native.Mathlib.Omega.{arith}
use lib.ListN.{length, take, drop, length-append}
use lib.Seq.{take_at}
use borrow.Rule.Slice.PartMut.{put_mid}
use Rattle.lists.specs.Tests.{below, different}
use Rattle.lists.specs.Lists.{Bytes, join}
use Rattle.lists.proofs.Alls.{all_left, all_right}
use Rattle.lists.proofs.Boards.{below_all, all-below}
use Rattle.lists.proofs.Pieces.{join-ext}
use Rattle.sizes.specs.declared.Sizes.{Sizes}
use Rattle.sizes.specs.Sizing.{α}
use Rattle.sizes.proofs.Legal.{Legal}
use Rattle.mbcr.specs.Share.{DifferentPoints}
use Rattle.mbcr.specs.Rebuild.{received, exchanged, finished_share}
use Rattle.mbcr.proofs.Points.{boards-of}
use Rattle.stripe_exchange.proofs.Packets.{length-received, length_exchanged, received-bytes, exchanged-bytes}
use Rattle.row_values.specs.Steps.{row_sums}
use Rattle.stripe_finish.specs.Steps.{finished_by, board_rows}
use Rattle.stripe_finish.proofs.Finished.{back-next, finished-is, length-finished, rows_g, rows-f}
use Rattle.finish_bytes.specs.Steps.{stripe_by}

-- the second bytes of the helpers and those of the partners, put in one after another
pub gather-made : (z : Sizes) (S s : ℕ) (packets exchanges f a b : List ℕ) → 1 ≤ z.r → length f ≡ z.d + z.r
    → a ≡ received z S 1 s packets → b ≡ exchanged z S s exchanges
    → let m = z.d in let last = length f - 1 in
    take last (put_mid m (last - m) (put_mid 0 (m - 0) f a) b) ≡ received z S 1 s packets ++ exchanged z S s exchanges
gather-made z S s packets exchanges f a b h l ea eb =
    let last : ℕ = length f - 1 in
    let la : length a ≡ z.d = ap length ea ∙ length-received z S 1 s packets in
    let lb : length b ≡ z.r - 1 = ap length eb ∙ length_exchanged z S s exchanges in
    let lab : length (a ++ b) ≡ last = length-append a b ∙ ap₂ ◌+◌ la lb ∙ omega arith in
    ap (take last) (back-next z.d (last - z.d) f a b la) ∙ take_at (a ++ b) (drop (last - z.d) (drop z.d f)) last lab ∙ ap₂ {C = List ℕ} (λ x y. x ++ y) ea eb

-- a stripe, from what its callees give
pub stripe-step : (z : Sizes) (i L L₀ S s e w w₀ : ℕ) (rows packets exchanges firsts got g rowsG rowsF out : List ℕ)
    → out ≡ finished_by z.n i L e rowsF g (take (w - 1) got) → g ≡ row_sums L₀ firsts rowsG → L₀ ≡ L → firsts ≡ received z S 0 s packets
    → take (w₀ - 1) got ≡ received z S 1 s packets ++ exchanged z S s exchanges → rowsG ≡ take (z.d * 32) rows → rowsF ≡ drop (z.d * 32) rows
    → e ≡ z.d - 1 → w ≡ w₀ → out ≡ stripe_by z i L rows S s packets exchanges
unfolding stripe_by
stripe-step z i L L₀ S s e w w₀ rows packets exchanges firsts got g rowsG rowsF out eo eg el e₁ e₂ er ef ee ew =
    eo ∙ ap₂ (λ (k : ℕ) (q : List ℕ). finished_by z.n i L k q g (take (w - 1) got)) ee ef
    ∙ ap₂ (λ (q rest : List ℕ). finished_by z.n i L (z.d - 1) (drop (z.d * 32) rows) q rest)
    (eg ∙ ap₂ (row_sums L₀) e₁ er ∙ ap (λ (k : ℕ). row_sums k (received z S 0 s packets) (take (z.d * 32) rows)) el)
    (ap (λ (k : ℕ). take (k - 1) got) ew ∙ e₂)

pub length-stripe : (z : Sizes) → Legal z → (i L S s : ℕ) (rows packets exchanges : List ℕ) → length (stripe_by z i L rows S s packets exchanges) ≡ α z
unfolding stripe_by
length-stripe z legal i L S s rows packets exchanges =
    let rest : List ℕ = received z S 1 s packets ++ exchanged z S s exchanges in
    let lr : length rest ≡ z.d + (z.r - 1) =
    length-append (received z S 1 s packets) (exchanged z S s exchanges) ∙ ap₂ ◌+◌ (length-received z S 1 s packets) (length_exchanged z S s exchanges) in
    length-finished z.n i L (z.d - 1) (drop (z.d * 32) rows) (row_sums L (received z S 0 s packets) (take (z.d * 32) rows)) rest
    ∙ ap (λ (m : ℕ). m + 1 + (z.d - 1)) lr ∙ omega (arith, legal.some-fresh, legal.some_read, legal.read-helpers)

-- the share that board i writes
pub share-is : (z : Sizes) (pts : List ℕ) → Legal z → DifferentPoints z pts → (i S L : ℕ) (helpers packets partners exchanges rows : List ℕ) → i < z.n
    → length helpers ≡ z.d → length partners ≡ z.r - 1 → below z.n (helpers ++ partners ++ (i ∷ [])) ≡ true → different (helpers ++ partners ++ (i ∷ [])) ≡ true
    → Bytes packets → Bytes exchanges → z.n ≤ L → L ≤ 32 → rows ≡ board_rows pts helpers partners i
    → join S (λ s. stripe_by z i L rows S s packets exchanges) ≡ finished_share z pts S i helpers packets partners exchanges
unfolding stripe_by finished_share
share-is z pts legal apart i S L helpers packets partners exchanges rows hi lh lp known once bp be hL L32 er =
    let m : length helpers * 32 ≡ z.d * 32 = ap (λ (q : ℕ). q * 32) lh in
    let bs = boards-of z (helpers ++ partners ++ (i ∷ [])) known once in
    join-ext S _ _ (λ s k.
    finished-is z pts legal apart i hi helpers partners (received z S 0 s packets) (received z S 1 s packets) (exchanged z S s exchanges)
    (drop (z.d * 32) rows) _ _ L bs lh lp (length-received z S 0 s packets) (length-received z S 1 s packets) (length_exchanged z S s exchanges)
    (received-bytes z S 0 s packets (omega arith) k bp) (received-bytes z S 1 s packets (omega arith) k bp) (exchanged-bytes z S s exchanges k be) hL L32
    (ap (drop (z.d * 32)) er ∙ rows-f pts helpers partners i (z.d * 32) m)
    (ap (row_sums L (received z S 0 s packets)) (ap (take (z.d * 32)) er ∙ rows_g pts helpers partners i (z.d * 32) m)) refl)

-- each of the boards is known
pub last-known : (n i : ℕ) (helpers partners : List ℕ) → below n (helpers ++ partners ++ (i ∷ [])) ≡ true
    → (below n helpers ≡ true) × (below n partners ≡ true) × (i < n)
last-known n i helpers partners h =
    let all = below_all n (helpers ++ partners ++ (i ∷ [])) h in
    let two = all_left (λ b. b < n) (helpers ++ partners) (i ∷ []) all in (
      all-below n helpers (all_left (λ b. b < n) helpers partners two),
      all-below n partners (all_right (λ b. b < n) helpers partners two),
      (all_right (λ b. b < n) (helpers ++ partners) (i ∷ []) all).0,
    )

-- at the end of the loop over the stripes
pub share-end : (f : ℕ → List ℕ) (w : ℕ) (out₀ out : List ℕ) (s S : ℕ) → s ≡ S → out ≡ join s f ++ drop (s * w) out₀ → out ≡ join S f ++ drop (S * w) out₀
share-end f w out₀ out s S e h = rw e at h
