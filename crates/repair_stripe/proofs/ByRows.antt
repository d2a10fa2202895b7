-- A stripe rebuilt by rows is that rebuilt by places.
-- Assumes nothing.
use Prim.Native.Nat.{ℕ, ◌+◌, ◌*◌, ◌-◌, ◌<◌, ◌≤◌}
use mathlib.Core.Path.{◌≡◌, refl, sym, ap, ap₂, subst, ◌∙◌}
use mathlib.Core.Bool.{true}
use mathlib.Core.List.{List, [], ◌∷◌, ◌++◌, append_assoc}
use native.Mathlib.Omega.{arith}
use lib.ListN.{length, get_or, take, drop, length-append, length-drop, take-append-drop}
use Rattle.lists.specs.Tests.{below, different, apart}
use Rattle.lists.specs.Lists.{All, Bytes, tabulate, join, piece}
use Rattle.lists.proofs.Alls.{all-at, append-all, take-alls, drop-alls}
use Rattle.lists.proofs.Pieces.{length-tabulate, tabulate-at, tabulate-ext, tabulate-all, join-ext, piece-at, piece-join, length-piece, piece_bytes}
use Rattle.lists.proofs.Put.{part_end}
use Rattle.sizes.specs.declared.Sizes.{Sizes}
use Rattle.sizes.specs.Sizing.{α}
use Rattle.sizes.proofs.Legal.{Legal}
use Rattle.polynomial.specs.Polynomial.{eval}
use Rattle.polynomial.proofs.Poly.{eval-byte, interpolate-bytes}
use Rattle.mbcr.specs.Share.{DifferentPoints, point, points}
use Rattle.mbcr.specs.Rebuild.{g_from}
use Rattle.mbcr.proofs.Points.{Boards, boards-left, points-bytes, points-distinct}
use Rattle.lagrange_factors.proofs.Values.{board-below}
use Rattle.lagrange_rows.specs.Steps.{lagrange_rows}
use Rattle.row_values.specs.Steps.{row_sums}
use Rattle.row_values.proofs.Sums.{sums-values}
use Rattle.stripe_finish.specs.Steps.{board_rows}
use Rattle.stripe_finish.proofs.Finished.{finished-is, rows_g, rows-f}
use Rattle.area_puts.specs.Steps.{puts}
use Rattle.area_puts.proofs.Puts.{puts-same}
use Rattle.stripe_helper.specs.Steps.{pair_by}
use Rattle.repair_factors.specs.Steps.{pair_row_at}
use Rattle.repair_hear.specs.Steps.{Naming, heard_first, heard_second}
use Rattle.repair_hear.proofs.Heard.{piece-long}
use Rattle.repair_hear.proofs.Sent.{firsts-are, seconds-are}
use Rattle.repair_rows.specs.Steps.{past, helpers_at, partners_at, fresh_rows}
use Rattle.repair_rows.proofs.Others.{past-below, helpers-long, partners-long, length-fresh-rows}
use Rattle.repair_sent.specs.Steps.{rows_of, g_row, g_rows, sent_by, stripe_by}
use Rattle.repair_sent.proofs.Finished.{length-g, length-stripe}
use Rattle.repair_stripe.specs.Steps.{DifferentRuns, polys_of, sent_at, stripe_at, all_firsts, all_seconds, rebuilt, firsts_by, seconds_by, rebuilt_by}
use Rattle.repair_stripe.proofs.Partners.{heard-boards}
use Rattle.repair_stripe.proofs.Rebuilt.{length-poly, length-firsts, length-seconds, firsts-bytes, seconds-bytes}

-- ---- from the bytes that were heard

module _ (z : Sizes) (pts : List ℕ) (legal : Legal z) (points-differ : DifferentPoints z pts) (fresh : List ℕ) (c : ℕ) (named : List ℕ) (nc : Naming z (length fresh) c)
    (ln : length named ≡ length fresh * c) (bf : below z.n fresh ≡ true)
    (boards : (a : ℕ) → a < length fresh → Boards z (helpers_at z c named a ++ partners_at z c fresh named a ++ (get_or fresh a 0 ∷ [])))
    (rows : List ℕ) (er : rows ≡ join (length fresh) (fresh_rows z c pts fresh named)) (L : ℕ) (hL : z.n ≤ L) (L32 : L ≤ 32)
    (firsts : List ℕ) (l₁ : length firsts ≡ length fresh * c) (b₁ : Bytes firsts) where
  open z use {n, d, r}

  abbrev t : ℕ
  t = length fresh

  -- the width of the rows of one fresh board
  abbrev w : ℕ
  w = (d + (d + r)) * 32

  -- its helpers, their first bytes, and its partners
  abbrev hs : ℕ → List ℕ
  hs a = helpers_at z c named a

  abbrev fs : ℕ → List ℕ
  fs a = helpers_at z c firsts a

  abbrev ms : ℕ → List ℕ
  ms a = partners_at z c fresh named a

  run_long : (l : List ℕ) → length l ≡ t * c → (a : ℕ) → a < t → length (helpers_at z c l a) ≡ d
  run_long l e a h = helpers-long z c fresh l nc e a h

  front_bytes : (l : List ℕ) → Bytes l → (a : ℕ) → Bytes (helpers_at z c l a)
  front_bytes l b a = take-alls (λ x. x < 256) d (piece c a l) (piece_bytes c a l b)

  its-rows : (a : ℕ) → a < t → rows_of d r rows a ≡ board_rows pts (hs a) (ms a) (get_or fresh a 0)
  unfolding fresh_rows
  its-rows a h =
      ap (piece w a) er
      ∙ piece-join t w (fresh_rows z c pts fresh named) (λ b k. length-fresh-rows z legal c pts fresh named b nc ln k) a h

  rows-of-g : (a : ℕ) → a < t → take (d * 32) (rows_of d r rows a) ≡ lagrange_rows pts (hs a)
  rows-of-g a h =
      ap (take (d * 32)) (its-rows a h)
      ∙ rows_g pts (hs a) (ms a) (get_or fresh a 0) (d * 32) (ap (λ (m : ℕ). m * 32) (run_long named ln a h))

  rows-of-f : (a : ℕ) → a < t → drop (d * 32) (rows_of d r rows a) ≡ lagrange_rows pts (hs a ++ ms a ++ (get_or fresh a 0 ∷ []))
  rows-of-f a h =
      ap (drop (d * 32)) (its-rows a h)
      ∙ rows-f pts (hs a) (ms a) (get_or fresh a 0) (d * 32) (ap (λ (m : ℕ). m * 32) (run_long named ln a h))

  abbrev gs : List ℕ
  gs = g_rows z t c L rows firsts

  -- its row of g
  g-row : (a : ℕ) → a < t → piece L a gs ≡ row_sums L (fs a) (lagrange_rows pts (hs a))
  unfolding g_row
  g-row a h =
      piece-join t L (g_row d w c L rows firsts) (λ b k. length-g d w c L rows firsts b) a h ∙ ap (row_sums L (fs a)) (rows-of-g a h)

  -- has its values
  g-values : (a : ℕ) → a < t → piece L a gs ≡ tabulate L (λ m. eval (g_from z pts (hs a) (fs a)) (point pts m))
  unfolding g_from
  g-values a h =
      let bs = boards-left z (hs a) (ms a) (boards-left z (hs a ++ ms a) (get_or fresh a 0 ∷ []) (boards a h)) in
      g-row a h
      ∙ sums-values pts (hs a) (fs a) (lagrange_rows pts (hs a)) L refl L32 (run_long named ln a h ∙ sym (run_long firsts l₁ a h))
      (points-bytes z pts points-differ (hs a) bs) (points-distinct z pts points-differ (hs a) bs) (front_bytes firsts b₁ a)

  abbrev polys : List ℕ
  polys = polys_of z t c pts named firsts

  -- what it is by places
  poly-at : (a : ℕ) → a < t → piece d a polys ≡ g_from z pts (hs a) (fs a)
  poly-at a h = piece-join t d (λ b. g_from z pts (hs b) (fs b)) (λ b k. length-poly z c t pts named firsts b nc.helps (omega arith) (omega arith) k) a h

  its-board : (a : ℕ) → a < t → get_or fresh a 0 < n
  its-board a h = board-below n fresh a bf h

  -- the bytes that the other fresh boards send
  sent_is : (a : ℕ) → a < t → sent_by t L gs (get_or fresh a 0) a ≡ sent_at z t polys (point pts (get_or fresh a 0)) a
  unfolding sent_by
  sent_is a h =
      let i : ℕ = get_or fresh a 0 in
      let hi : i < L = omega (arith, its-board a h) in
      tabulate-ext (t - 1) (λ u. get_or gs (past a u * L + i) 0) (λ u. eval (piece d (past a u) polys) (point pts i))
      (λ u k. let b : past a u < t = past-below a u t k in
      sym (piece-at L (past a u) gs i 0 hi)
      ∙ ap (λ (l : List ℕ). get_or l i 0) (g-values (past a u) b)
      ∙ tabulate-at L (λ m. eval (g_from z pts (hs (past a u)) (fs (past a u))) (point pts m)) 0 i hi
      ∙ ap (λ (p : List ℕ). eval p (point pts i)) (sym (poly-at (past a u) b)))

  g-bytes : (a : ℕ) → Bytes (g_from z pts (hs a) (fs a))
  unfolding g_from
  g-bytes a = interpolate-bytes (points pts (hs a)) (fs a) (front_bytes firsts b₁ a)

  sent-bytes : (a : ℕ) → a < t → Bytes (sent_at z t polys (point pts (get_or fresh a 0)) a)
  sent-bytes a h =
      tabulate-all (λ x. x < 256) (t - 1) (λ u. eval (piece d (past a u) polys) (point pts (get_or fresh a 0)))
      (λ u k. subst (λ (p : List ℕ). eval p (point pts (get_or fresh a 0)) < 256) (sym (poly-at (past a u) (past-below a u t k)))
      (eval-byte (g_from z pts (hs (past a u)) (fs (past a u))) (point pts (get_or fresh a 0)) (g-bytes (past a u))))

  pub stripe-is : (seconds : List ℕ) → length seconds ≡ t * c → Bytes seconds → (a : ℕ) → a < t
      → stripe_by z c L rows fresh seconds gs a ≡ stripe_at z c pts fresh named firsts seconds polys a
  unfolding stripe_by stripe_at
  stripe-is seconds l₂ b₂ a h =
      let i : ℕ = get_or fresh a 0 in
      let all : List ℕ = piece c a seconds in
      let stood : List ℕ = drop d all in
      let swapped : List ℕ = sent_at z t polys (point pts i) a in
      let ns : length (piece c a seconds) ≡ c = length-piece c a seconds (omega (arith, part_end a c t h)) in
      let some = nc.some in
      let helps = nc.helps in
      let whole = nc.whole in
      let lt : length (stood ++ swapped) ≡ r - 1 =
      length-append stood swapped ∙ ap₂ ◌+◌ (length-drop d all) (length-tabulate (t - 1) (λ u. eval (piece d (past a u) polys) (point pts i))) ∙ omega arith in
      let rest : piece c a seconds ++ sent_by t L gs i a ≡ helpers_at z c seconds a ++ (stood ++ swapped) =
      ap₂ {C = List ℕ} (λ x y. x ++ y) (sym (take-append-drop d all)) (sent_is a h) ∙ append_assoc (take d all) stood swapped in
      finished-is z pts legal points-differ i (its-board a h) (hs a) (ms a) (fs a) (helpers_at z c seconds a) (stood ++ swapped) (drop (d * 32) (rows_of d r rows a)) (piece L a gs)
      (piece c a seconds ++ sent_by t L gs i a) L (boards a h) (run_long named ln a h) (partners-long z c fresh named nc ln a h) (run_long firsts l₁ a h) (run_long seconds l₂ a h)
      lt (front_bytes firsts b₁ a) (front_bytes seconds b₂ a)
      (append-all (λ x. x < 256) stood swapped (drop-alls (λ x. x < 256) d all (piece_bytes c a seconds b₂)) (sent-bytes a h))
      hL L32 (rows-of-f a h) (g-row a h) rest

-- ---- from what the boards hold

-- put to their places, from what was worked out
pub stripes-put : (z : Sizes) (fl gl L : ℕ) (ff gf rows fresh : List ℕ) (c : ℕ) (named : List ℕ) (own : ℕ → List ℕ) (at : ℕ → ℕ) (m : ℕ) (area firsts seconds gs new : List ℕ)
    → firsts ≡ firsts_by z fl gl L ff gf rows own fresh c named → seconds ≡ seconds_by z fl gl L ff gf rows own fresh c named
    → gs ≡ g_rows z (length fresh) c L rows firsts → new ≡ puts at (stripe_by z c L rows fresh seconds gs) m area
    → new ≡ puts at (rebuilt_by z fl gl L ff gf rows own fresh c named) m area
unfolding rebuilt_by
stripes-put z fl gl L ff gf rows fresh c named own at m area firsts seconds gs new ef es eg en =
    en ∙ ap₂ {C = List ℕ} (λ (s g : List ℕ). puts at (stripe_by z c L rows fresh s g) m area) es (eg ∙ ap (g_rows z (length fresh) c L rows) ef)

module _ (z : Sizes) (legal : Legal z) (fl gl L : ℕ) (ff gf rows fresh : List ℕ) (c : ℕ) (named : List ℕ) (nc : Naming z (length fresh) c) (ln : length named ≡ length fresh * c) where
  open z use {n, d, r}

  -- how long it is
  pub length-by : (own : ℕ → List ℕ) (a : ℕ) → a < length fresh → length (rebuilt_by z fl gl L ff gf rows own fresh c named a) ≡ α z
  unfolding rebuilt_by
  length-by own a h =
      let ss : List ℕ = seconds_by z fl gl L ff gf rows own fresh c named in
      let ls : length ss ≡ length fresh * c = length-tabulate (length named) (heard_second (d + r) fl gl ff gf own named) ∙ ln in
      length-stripe z legal c L rows fresh ss (g_rows z (length fresh) c L rows (firsts_by z fl gl L ff gf rows own fresh c named)) a nc
      (length-piece c a ss (omega (arith, part_end a c (length fresh) h)))

  -- only what the boards named hold counts
  pub by-same : (own other : ℕ → List ℕ) → All (λ j. own j ≡ other j) named → (a : ℕ)
      → rebuilt_by z fl gl L ff gf rows own fresh c named a ≡ rebuilt_by z fl gl L ff gf rows other fresh c named a
  unfolding rebuilt_by heard_first heard_second
  by-same own other same a =
      ap₂ {C = List ℕ} (λ (f s : List ℕ). stripe_by z c L rows fresh s (g_rows z (length fresh) c L rows f) a)
      (tabulate-ext (length named) _ _ (λ p k. ap (λ (w : List ℕ). get_or (pair_by (d + r) (take fl (piece 32 p ff)) (take gl (piece 32 p gf)) w) 0 0) (held p k)))
      (tabulate-ext (length named) _ _ (λ p k. ap (λ (w : List ℕ). get_or (pair_by (d + r) (take fl (piece 32 p ff)) (take gl (piece 32 p gf)) w) 1 0) (held p k)))
    where
      held : (p : ℕ) → p < length named → own (get_or named p 0) ≡ other (get_or named p 0)
      held p k = all-at (λ j. own j ≡ other j) 0 named same p k

  -- by places
  module _ (pts : List ℕ) (points-differ : DifferentPoints z pts) (bf : below n fresh ≡ true) (bn : below n named ≡ true)
      (once : different fresh ≡ true) (none : apart fresh named ≡ true) (runs : DifferentRuns c fresh named)
      (hf : d + r ≤ fl) (hf32 : fl ≤ 32) (hg : d ≤ gl) (hg32 : gl ≤ 32) (hL : n ≤ L) (L32 : L ≤ 32)
      (ef : ff ≡ join (length named) (pair_row_at pts n c (d + r) fresh named)) (eg : gf ≡ join (length named) (pair_row_at pts n c d fresh named))
      (er : rows ≡ join (length fresh) (fresh_rows z c pts fresh named)) where
    pub by-is : (own : ℕ → List ℕ) → ((j : ℕ) → j < n → length (own j) ≡ α z) → ((j : ℕ) → Bytes (own j)) → (a : ℕ) → a < length fresh
        → rebuilt_by z fl gl L ff gf rows own fresh c named a ≡ rebuilt z pts own fresh c named a
    unfolding rebuilt_by rebuilt
    by-is own long bytes a h =
        ap₂ {C = List ℕ} (λ (f s : List ℕ). stripe_by z c L rows fresh s (g_rows z (length fresh) c L rows f) a)
        (firsts-are z pts legal points-differ fresh named c ln bn own long (λ j k. bytes j) fl gl hf hf32 hg hg32 ff gf ef eg)
        (seconds-are z pts legal points-differ fresh named c ln bn own long (λ j k. bytes j) fl gl hf hf32 hg hg32 ff gf ef eg)
        ∙ stripe-is z pts legal points-differ fresh c named nc ln bf (heard-boards z c fresh named bf bn once none runs) rows er L hL L32
        (all_firsts z pts own fresh c named) (length-firsts z pts fresh c named own ln) (firsts-bytes z pts fresh c named own bytes)
        (all_seconds z pts own fresh c named) (length-seconds z pts fresh c named own ln) (seconds-bytes z pts fresh c named own bytes) a h

    -- all stripes, from an area of bytes
    pub shares-are : (area new : List ℕ) (part stripes : ℕ) → Bytes area → length area ≡ n * part → stripes * α z ≤ part
        → let own : ℕ → ℕ → List ℕ = λ s j. piece (α z) s (drop (j * part) area) in let at : ℕ → ℕ = λ a. get_or fresh a 0 * part in
        new ≡ puts at (λ a. join stripes (λ s. rebuilt_by z fl gl L ff gf rows (own s) fresh c named a)) (length fresh) area
        → new ≡ puts at (λ a. join stripes (λ s. rebuilt z pts (own s) fresh c named a)) (length fresh) area
    shares-are area new part stripes ba la room en =
        let own : ℕ → ℕ → List ℕ = λ s j. piece (α z) s (drop (j * part) area) in
        let at : ℕ → ℕ = λ a. get_or fresh a 0 * part in
        en
        ∙ puts-same at at _ _ (length fresh) area (λ a h. refl) (λ a h.
        join-ext stripes _ _ (λ s k.
        by-is (own s)
        (λ j l. piece-long (α z) s (j * part) area (omega (arith, part_end j part n l, part_end s (α z) stripes k)))
        (λ j. piece_bytes (α z) s (drop (j * part) area) (drop-alls (λ x. x < 256) (j * part) area ba)) a h))
