-- A stripe by rows is that of the definition; lists and parts put together.
-- Assumes nothing.
use mathlib.Core.Path.{◌≡◌, refl, sym, ap, ap₂, ◌∙◌}
use mathlib.Core.Bool.{true}
use mathlib.Core.List.{List, [], ◌∷◌, ◌++◌, map, append-nil, append_assoc}
use Prim.Native.Nat.{ℕ, zero, suc, ◌+◌, ◌*◌, ◌-◌, ◌%◌, ◌<◌, ◌≤◌}
use native.Mathlib.Nat.{sub-zero, mod-add-mod}
use native.Mathlib.Omega.{arith}
use lib.ListN.{length, get_or, take, drop, set, length-append, length-take, length-drop, drop_of_length-le}
use lib.Seq.{take_at, drop_at, take_all}
use borrow.Rule.Slice.PartMut.{put_mid}
use Rattle.lists.specs.Tests.{below}
use Rattle.lists.specs.Lists.{Bytes, tabulate}
use Rattle.lists.proofs.Alls.{append-all}
use Rattle.lists.proofs.Boards.{below_all, all-below}
use Rattle.lists.proofs.Pieces.{length-tabulate, tabulate-at, tabulate-ext, map-tabulate}
use Rattle.sizes.specs.declared.Sizes.{Sizes}
use Rattle.sizes.proofs.Legal.{Legal}
use Rattle.polynomial.specs.Polynomial.{eval, interpolate}
use Rattle.polynomial.proofs.Poly.{eval-byte, interpolate-bytes}
use Rattle.mbcr.specs.Share.{DifferentPoints, point, points, neighbours, symbols}
use Rattle.mbcr.specs.Rebuild.{g_from, f_from, finished_stripe}
use Rattle.mbcr.proofs.Points.{Boards, boards-left, points-bytes, points-distinct}
use Rattle.lagrange_rows.specs.Steps.{lagrange_rows}
use Rattle.lagrange_rows.proofs.Weights.{length-rows}
use Rattle.row_values.specs.Steps.{row_sums, turned}
use Rattle.row_values.proofs.Sums.{sums-values, turned-values}
use Rattle.stripe_finish.specs.Steps.{finished_by, board_rows}

-- ---- lists put together of parts that were lent

-- a list after its first m elements were lent, and k more after them
pub back-next : (m k : ℕ) (l a b : List ℕ) → length a ≡ m
    → put_mid m k (put_mid 0 (m - 0) l a) b ≡ (a ++ b) ++ drop k (drop m l)
back-next m k l a b e =
    ap₂ {C = List ℕ} (λ x y. x ++ (b ++ drop k y)) (take_at a (drop (m - 0) l) m e) (drop_at a (drop (m - 0) l) m e ∙ ap (λ (i : ℕ). drop i l) (sub-zero m))
    ∙ sym (append_assoc a b (drop k (drop m l)))

pub set_last : (k : ℕ) (l : List ℕ) (v : ℕ) → length l ≡ suc k → set l k v ≡ take k l ++ (v ∷ [])
set_last zero [] v e = absurd (omega arith)
set_last zero (x ∷ []) v e = refl
set_last zero (x ∷ y ∷ l) v e = absurd (omega arith)
set_last (suc k) [] v e = absurd (omega arith)
set_last (suc k) (x ∷ l) v e = ap {B = List ℕ} (λ l. x ∷ l) (set_last k l v (omega arith))

pub boards-made : (helpers partners out a b : List ℕ) (i : ℕ) → length out ≡ length helpers + length partners + 1
    → (let m = length helpers in a ≡ take (length (take (m - 0) (drop 0 out))) helpers)
    → (let m = length helpers in let last = m + length partners in b ≡ take (length (take (last - m) (drop m (put_mid 0 (m - 0) out a)))) partners)
    → let m = length helpers in let last = m + length partners in
    set (put_mid m (last - m) (put_mid 0 (m - 0) out a) b) last i ≡ helpers ++ partners ++ (i ∷ [])
boards-made helpers partners out a b i l ea eb =
    let m : ℕ = length helpers in
    let last : ℕ = m + length partners in
    let a' : a ≡ helpers = ea ∙ take_all (length (take (m - 0) (drop 0 out))) helpers (simp length-take (omega arith)) in
    let la : length a ≡ m = ap length a' in
    let rest : length (drop m (put_mid 0 (m - 0) out a)) ≡ length partners + 1 =
    ap length (drop_at a (drop (m - 0) out) m la) ∙ length-drop (m - 0) out ∙ omega arith in
    let b' : b ≡ partners = eb ∙ take_all (length (take (last - m) (drop m (put_mid 0 (m - 0) out a)))) partners (simp length-take (omega arith)) in
    let lab : length (a ++ b) ≡ last = length-append a b ∙ ap₂ ◌+◌ la (ap length b') in
    let lr : length ((a ++ b) ++ drop (last - m) (drop m out)) ≡ suc last = simp (length-append (a ++ b), length-drop) (omega arith) in
    ap (λ (q : List ℕ). set q last i) (back-next m (last - m) out a b la)
    ∙ set_last last ((a ++ b) ++ drop (last - m) (drop m out)) i lr
    ∙ ap (λ (q : List ℕ). q ++ (i ∷ [])) (take_at (a ++ b) (drop (last - m) (drop m out)) last lab ∙ ap₂ {C = List ℕ} (λ x y. x ++ y) a' b')

pub stripe-made : (n i L next : ℕ) (rows g got got' f out a b : List ℕ)
    → next ≡ (i + 1) % n → 1 ≤ length got → length got ≤ length out → got' ≡ set got (length got - 1) (get_or g i 0)
    → f ≡ row_sums L got' rows → (let w = length got in a ≡ turned n i (length (take (w - 0) (drop 0 out))) f)
    → (let w = length got in let out' = put_mid 0 (w - 0) out a in b ≡ turned n next (length (take (length out' - w) (drop w out'))) g)
    → (let w = length got in let out' = put_mid 0 (w - 0) out a in
    put_mid w (length out' - w) out' b ≡ finished_by n i L (length out - w) rows g (take (w - 1) got))
unfolding finished_by turned
stripe-made n i L next rows g got got' f out a b en h l eg ef ea eb =
    let w : ℕ = length got in
    let out' : List ℕ = put_mid 0 (w - 0) out a in
    let k : length (take (w - 0) (drop 0 out)) ≡ w = simp length-take (omega arith) in
    let la : length a ≡ w = ap length ea ∙ length-tabulate (length (take (w - 0) (drop 0 out))) _ ∙ k in
    let rest : List ℕ = take (w - 1) got in
    let lr : length rest + 1 ≡ w = simp length-take (omega arith) in
    let eg' : got' ≡ rest ++ (get_or g i 0 ∷ []) = eg ∙ set_last (w - 1) got (get_or g i 0) (omega arith) in
    let lo : length out' ≡ length out = length-append a (drop (w - 0) out) ∙ ap₂ ◌+◌ la (length-drop (w - 0) out) ∙ omega arith in
    let ld : length (drop w out') ≡ length out - w = length-drop w out' ∙ ap (λ (m : ℕ). m - w) lo in
    let m : length (take (length out' - w) (drop w out')) ≡ length out - w = simp length-take (omega arith) in
    back-next w (length out' - w) out a b la
    ∙ ap (λ (q : List ℕ). (a ++ b) ++ q) (drop_of_length-le (drop w out) {i = length out' - w} (simp length-drop (omega arith)))
    ∙ append-nil (a ++ b)
    ∙ ap₂ {C = List ℕ} (λ x y. x ++ y)
    (ea ∙ ap₂ {C = List ℕ} (λ (q : ℕ) (row : List ℕ). tabulate q (λ t. get_or row ((i + t) % n) 0)) (k ∙ sym lr) (ef ∙ ap (λ (v : List ℕ). row_sums L v rows) eg'))
    (eb ∙ ap₂ {C = List ℕ} (λ (q j : ℕ). tabulate q (λ t. get_or g ((j + t) % n) 0)) m en)

-- ---- by the definition

module _ (z : Sizes) (pts : List ℕ) (legal : Legal z) (apart : DifferentPoints z pts) (i : ℕ) (hi : i < z.n) where
  open z use {n, d, r}

  -- f at the neighbours from i on, and g at those after it
  kept-f : (p : List ℕ) (m L : ℕ) → n ≤ L → turned n i m (tabulate L (λ t. eval p (point pts t))) ≡ map (eval p) (points pts (neighbours z i m))
  unfolding neighbours
  kept-f p m L h =
      turned-values n i m L (λ t. eval p (point pts t)) (omega arith) h
      ∙ sym (ap (map (eval p)) (map-tabulate (point pts) m (λ t. (i + t) % n)) ∙ map-tabulate (eval p) m (λ t. point pts ((i + t) % n)))

  kept-g : (p : List ℕ) (m L : ℕ) → 1 ≤ m → n ≤ L
      → turned n ((i + 1) % n) (m - 1) (tabulate L (λ t. eval p (point pts t))) ≡ map (eval p) (points pts (drop 1 (neighbours z i m)))
  unfolding neighbours
  kept-g p zero L h l = absurd (omega arith)
  kept-g p (suc m) L h l =
      let e : suc m - 1 ≡ m = omega arith in
      turned-values n ((i + 1) % n) (suc m - 1) L (λ t. eval p (point pts t)) (omega arith) l
      ∙ ap (λ (q : ℕ). tabulate q (λ t. eval p (point pts (((i + 1) % n + t) % n)))) e
      ∙ tabulate-ext m (λ t. eval p (point pts (((i + 1) % n + t) % n))) (λ t. eval p (point pts ((i + suc t) % n)))
      (λ t k. let q : i + 1 + t ≡ i + suc t = omega arith in ap (λ (b : ℕ). eval p (point pts b)) (mod-add-mod (i + 1) n t ∙ ap (λ (b : ℕ). b % n) q))
      ∙ sym (ap (map (eval p)) (map-tabulate (point pts) m (λ t. (i + suc t) % n)) ∙ map-tabulate (eval p) m (λ t. point pts ((i + suc t) % n)))

  pub finished-is : (helpers partners firsts seconds sent rows g rest : List ℕ) (L : ℕ) → Boards z (helpers ++ partners ++ (i ∷ []))
      → length helpers ≡ d → length partners ≡ r - 1 → length firsts ≡ d → length seconds ≡ d → length sent ≡ r - 1
      → Bytes firsts → Bytes seconds → Bytes sent → n ≤ L → L ≤ 32 → rows ≡ lagrange_rows pts (helpers ++ partners ++ (i ∷ []))
      → g ≡ row_sums L firsts (lagrange_rows pts helpers) → rest ≡ seconds ++ sent
      → finished_by n i L (d - 1) rows g rest ≡ finished_stripe z pts i helpers firsts seconds partners sent
  unfolding finished_by finished_stripe g_from f_from symbols
  finished-is helpers partners firsts seconds sent rows g rest L bs lh lp lf ls lt bf b₂ bt hL L32 er eg es =
      let all : List ℕ = helpers ++ partners ++ (i ∷ []) in
      let hs = boards-left z helpers partners (boards-left z (helpers ++ partners) (i ∷ []) bs) in
      let G : List ℕ = interpolate (points pts helpers) firsts in
      let g' : g ≡ tabulate L (λ m. eval G (point pts m)) =
      eg ∙ sums-values pts helpers firsts (lagrange_rows pts helpers) L refl L32 (lh ∙ sym lf)
      (points-bytes z pts apart helpers hs) (points-distinct z pts apart helpers hs) bf in
      let own : get_or g i 0 ≡ eval G (point pts i) = ap (λ (l : List ℕ). get_or l i 0) g' ∙ tabulate-at L (λ m. eval G (point pts m)) 0 i (omega arith) in
      let vs : List ℕ = seconds ++ sent ++ (eval G (point pts i) ∷ []) in
      let ev : rest ++ (get_or g i 0 ∷ []) ≡ vs = ap₂ {C = List ℕ} (λ (x : List ℕ) (y : ℕ). x ++ (y ∷ [])) es own in
      let l₂ : length (seconds ++ sent) ≡ d + (r - 1) = length-append seconds sent ∙ ap₂ ◌+◌ ls lt in
      let lv : length vs ≡ d + r = length-append (seconds ++ sent) (eval G (point pts i) ∷ []) ∙ ap (λ (m : ℕ). m + 1) l₂ ∙ omega (arith, legal.some-fresh) in
      let la : length all ≡ d + r =
      length-append (helpers ++ partners) (i ∷ []) ∙ ap (λ (m : ℕ). m + 1) (length-append helpers partners ∙ ap₂ ◌+◌ lh lp) ∙ omega (arith, legal.some-fresh) in
      let bG : eval G (point pts i) < 256 = eval-byte G (point pts i) (interpolate-bytes (points pts helpers) firsts bf) in
      let bv : Bytes vs =
      append-all (λ a. a < 256) (seconds ++ sent) (eval G (point pts i) ∷ []) (append-all (λ a. a < 256) seconds sent b₂ bt) (bG, tt) in
      let F : List ℕ = interpolate (points pts all) vs in
      let f' : row_sums L (rest ++ (get_or g i 0 ∷ [])) rows ≡ tabulate L (λ m. eval F (point pts m)) =
      ap (λ (v : List ℕ). row_sums L v rows) ev
      ∙ sums-values pts all vs rows L er L32 (la ∙ sym lv) (points-bytes z pts apart all bs) (points-distinct z pts apart all bs) bv in
      let m : length rest + 1 ≡ d + r = ap (λ (l : List ℕ). length l + 1) es ∙ ap (λ (m : ℕ). m + 1) l₂ ∙ omega (arith, legal.some-fresh) in
      ap₂ {C = List ℕ} (λ x y. x ++ y)
      (ap₂ (λ (q : ℕ) (row : List ℕ). turned n i q row) m f' ∙ kept-f F (d + r) L hL)
      (ap (turned n ((i + 1) % n) (d - 1)) g' ∙ kept-g G d L (omega (arith, legal.some_read, legal.read-helpers)) hL)

length-turned : (n i m : ℕ) (row : List ℕ) → length (turned n i m row) ≡ m
unfolding turned
length-turned n i m row = length-tabulate m (λ t. get_or row ((i + t) % n) 0)

pub length-finished : (n i L e : ℕ) (rows g rest : List ℕ) → length (finished_by n i L e rows g rest) ≡ length rest + 1 + e
unfolding finished_by
length-finished n i L e rows g rest =
    let f : List ℕ = turned n i (length rest + 1) (row_sums L (rest ++ (get_or g i 0 ∷ [])) rows) in
    length-append f (turned n ((i + 1) % n) e g) ∙ ap₂ ◌+◌ (length-turned n i (length rest + 1) _) (length-turned n ((i + 1) % n) e g)

-- ---- the rows of a board

pub all-below-32 : (helpers partners : List ℕ) (i : ℕ) → below 32 helpers ≡ true → below 32 partners ≡ true → i < 32
    → below 32 (helpers ++ partners ++ (i ∷ [])) ≡ true
all-below-32 helpers partners i h p l =
    all-below 32 (helpers ++ partners ++ (i ∷ []))
    (append-all (λ b. b < 32) (helpers ++ partners) (i ∷ []) (append-all (λ b. b < 32) helpers partners (below_all 32 helpers h) (below_all 32 partners p)) (l, tt))

pub rows_made : (pts helpers partners rows a b all : List ℕ) (i : ℕ) → all ≡ helpers ++ partners ++ (i ∷ [])
    → length rows ≡ (length helpers + length all) * 32 → a ≡ lagrange_rows pts helpers → b ≡ lagrange_rows pts all
    → (let m = length helpers * 32 in let rows' = put_mid 0 (m - 0) rows a in put_mid m (length rows' - m) rows' b ≡ board_rows pts helpers partners i)
unfolding board_rows
rows_made pts helpers partners rows a b all i ex l ea eb =
    let m : ℕ = length helpers * 32 in
    let la : length a ≡ m = ap length ea ∙ length-rows pts helpers in
    let rows' : List ℕ = put_mid 0 (m - 0) rows a in
    let lr : length rows' ≡ length rows = length-append a (drop (m - 0) rows) ∙ ap₂ ◌+◌ la (length-drop (m - 0) rows) ∙ omega arith in
    back-next m (length rows' - m) rows a b la
    ∙ ap (λ (q : List ℕ). (a ++ b) ++ q) (drop_of_length-le (drop m rows) {i = length rows' - m} (simp length-drop (omega arith)))
    ∙ append-nil (a ++ b) ∙ ap₂ {C = List ℕ} (λ x y. x ++ y) ea (eb ∙ ap (lagrange_rows pts) ex)

pub rows_g : (pts helpers partners : List ℕ) (i m : ℕ) → length helpers * 32 ≡ m → take m (board_rows pts helpers partners i) ≡ lagrange_rows pts helpers
unfolding board_rows
rows_g pts helpers partners i m e = take_at (lagrange_rows pts helpers) _ m (length-rows pts helpers ∙ e)

pub rows-f : (pts helpers partners : List ℕ) (i m : ℕ) → length helpers * 32 ≡ m
    → drop m (board_rows pts helpers partners i) ≡ lagrange_rows pts (helpers ++ partners ++ (i ∷ []))
unfolding board_rows
rows-f pts helpers partners i m e = drop_at (lagrange_rows pts helpers) _ m (length-rows pts helpers ∙ e)

pub length-board-rows : (pts helpers partners : List ℕ) (i : ℕ)
    → length (board_rows pts helpers partners i) ≡ (length helpers + (length helpers + length partners + 1)) * 32
unfolding board_rows
length-board-rows pts helpers partners i =
    length-append (lagrange_rows pts helpers) (lagrange_rows pts (helpers ++ partners ++ (i ∷ [])))
    ∙ ap₂ ◌+◌ (length-rows pts helpers)
    (length-rows pts (helpers ++ partners ++ (i ∷ []))
    ∙ ap (λ (m : ℕ). m * 32) (length-append (helpers ++ partners) (i ∷ []) ∙ ap (λ (m : ℕ). m + 1) (length-append helpers partners)))
    ∙ omega arith
