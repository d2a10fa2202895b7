-- What the fresh boards finish: bytes that partners send, and parts put together.
-- Assumes nothing.
use mathlib.Core.Path.{◌≡◌, ap, ap₂, ◌∙◌}
use mathlib.Core.List.{List, ◌++◌}
use Prim.Native.Nat.{ℕ, ◌+◌, ◌*◌, ◌-◌, ◌≤◌}
use native.Mathlib.Nat.{mul-le-mul}
use native.Mathlib.Omega.{arith}
use lib.ListN.{length, get_or, take, drop, length-append, length-take, length-drop}
use lib.Seq.{take_at, drop_at, take_all}
use borrow.Rule.Slice.PartMut.{put_mid}
use Rattle.lists.specs.Lists.{tabulate, piece}
use Rattle.lists.proofs.Pieces.{length-tabulate, fill_end, fill-all}
use Rattle.sizes.specs.declared.Sizes.{Sizes}
use Rattle.sizes.specs.Sizing.{α}
use Rattle.sizes.proofs.Legal.{Legal}
use Rattle.row_values.specs.Steps.{row_sums}
use Rattle.row_values.proofs.Sums.{length-sums}
use Rattle.stripe_finish.specs.Steps.{finished_by}
use Rattle.stripe_finish.proofs.Finished.{back-next, length-finished}
use Rattle.repair_hear.specs.Steps.{Naming}
use Rattle.repair_rows.specs.Steps.{past}
use Rattle.repair_sent.specs.Steps.{rows_of, g_row, sent_by, stripe_by}

-- rows that are few bytes
pub mul-few : (m w : ℕ) {k : ℕ} → m ≤ 32 → w ≤ 32 → k ≡ m * w → k ≤ 1024
mul-few m w h l e = let q : m * w ≤ 32 * 32 = mul-le-mul h l in omega arith

-- ---- what the partners send

pub sent-end : (L : ℕ) (gs : List ℕ) (i a : ℕ) (out₀ out : List ℕ) (u : ℕ) → u ≡ length out₀
    → out ≡ tabulate u (λ u. get_or gs (past a u * L + i) 0) ++ drop u out₀ → out ≡ sent_by (length out₀ + 1) L gs i a
unfolding sent_by
sent-end L gs i a out₀ out u e h =
    let f : ℕ → ℕ = λ u. get_or gs (past a u * L + i) 0 in
    let m : length out₀ ≡ length out₀ + 1 - 1 = omega arith in
    fill_end f out₀ out u (length out₀) e h ∙ fill-all f out₀ (length out₀) (omega arith) ∙ ap (λ (n : ℕ). tabulate n f) m

pub length-sent : (r L : ℕ) (gs : List ℕ) (i a : ℕ) → length (sent_by r L gs i a) ≡ r - 1
unfolding sent_by
length-sent r L gs i a = length-tabulate (r - 1) (λ u. get_or gs (past a u * L + i) 0)

-- ---- g of the fresh boards

pub g-made : (d w c L a k : ℕ) (rows firsts fs rs ys : List ℕ) → k ≡ L → fs ≡ take d (piece c a firsts) → rs ≡ take (d * 32) (piece w a rows) → ys ≡ row_sums k fs rs
    → ys ≡ g_row d w c L rows firsts a
unfolding g_row
g-made d w c L a k rows firsts fs rs ys ek ef er ey =
    ey ∙ ap₂ (row_sums k) ef er ∙ ap (λ (n : ℕ). row_sums n (take d (piece c a firsts)) (take (d * 32) (piece w a rows))) ek

pub length-g : (d w c L : ℕ) (rows firsts : List ℕ) (a : ℕ) → length (g_row d w c L rows firsts a) ≡ L
unfolding g_row
length-g d w c L rows firsts a = length-sums L (take d (piece c a firsts)) (take (d * 32) (piece w a rows))

-- ---- one finished stripe

-- the second bytes of the d boards that it names, put in, and the room for those of the other fresh boards; then both
module _ (d r a : ℕ) (seconds got ss xs : List ℕ) (h : 1 ≤ r) (l : length got ≡ d + r) (lp : length (piece d a seconds) ≡ d) (es : ss ≡ piece d a seconds)
    (ex : xs ≡ take (length (take (d - 0) (drop 0 got))) ss) where
  abbrev last : ℕ
  last = length got - 1

  run-copied : xs ≡ piece d a seconds
  run-copied =
      let k : length (take (d - 0) (drop 0 got)) ≡ d = simp length-take (omega arith) in
      ex ∙ ap₂ {C = List ℕ} take k es ∙ take_all d (piece d a seconds) (omega arith)

  run_long : length xs ≡ d
  run_long = ap length run-copied ∙ lp

  pub partners-room : length (take (last - d) (drop d (put_mid 0 (d - 0) got xs))) + 1 ≡ r
  partners-room =
      let lo : length (drop d (put_mid 0 (d - 0) got xs)) ≡ r = ap length (drop_at xs (drop (d - 0) got) d run_long) ∙ length-drop (d - 0) got ∙ omega arith in
      simp length-take (omega arith)

  pub gather-made : (L i : ℕ) (gs ys : List ℕ) → ys ≡ sent_by (length (take (last - d) (drop d (put_mid 0 (d - 0) got xs))) + 1) L gs i a
      → take last (put_mid d (last - d) (put_mid 0 (d - 0) got xs) ys) ≡ piece d a seconds ++ sent_by r L gs i a
  gather-made L i gs ys ey =
      let ey' : ys ≡ sent_by r L gs i a = ey ∙ ap (λ (n : ℕ). sent_by n L gs i a) partners-room in
      let ly : length ys ≡ r - 1 = ap length ey' ∙ length-sent r L gs i a in
      let lxy : length (xs ++ ys) ≡ last = length-append xs ys ∙ ap₂ ◌+◌ run_long ly ∙ omega arith in
      ap (take last) (back-next d (last - d) got xs ys run_long) ∙ take_at (xs ++ ys) (drop (last - d) (drop d got)) last lxy
      ∙ ap₂ {C = List ℕ} (λ x y. x ++ y) run-copied ey'

-- from what the callees give
pub stripe-made : (z : Sizes) (c L i a e w w₀ k : ℕ) (rows fresh seconds gs rs g got out : List ℕ) → i ≡ get_or fresh a 0
    → out ≡ finished_by z.n i k e rs g (take (w - 1) got) → rs ≡ drop (z.d * 32) (rows_of z.d z.r rows a) → g ≡ piece L a gs
    → take (w₀ - 1) got ≡ piece c a seconds ++ sent_by (length fresh) L gs i a → k ≡ L → e ≡ z.d - 1 → w ≡ w₀ → out ≡ stripe_by z c L rows fresh seconds gs a
unfolding stripe_by
stripe-made z c L i a e w w₀ k rows fresh seconds gs rs g got out ei eo er eg ec ek ee ew =
    let front : List ℕ = take (w - 1) got in
    let t : ℕ = length fresh in
    let ec' : front ≡ piece c a seconds ++ sent_by t L gs i a = ap (λ (n : ℕ). take (n - 1) got) ew ∙ ec in
    eo ∙ ap₂ (λ (n m : ℕ). finished_by z.n i n m rs g front) ek ee
    ∙ ap₂ (λ (p q : List ℕ). finished_by z.n i L (z.d - 1) p q front) er eg
    ∙ ap (finished_by z.n i L (z.d - 1) (drop (z.d * 32) (rows_of z.d z.r rows a)) (piece L a gs)) ec'
    ∙ ap (λ (b : ℕ). finished_by z.n b L (z.d - 1) (drop (z.d * 32) (rows_of z.d z.r rows a)) (piece L a gs) (piece c a seconds ++ sent_by t L gs b a)) ei

pub length-stripe : (z : Sizes) → Legal z → (c L : ℕ) (rows fresh seconds gs : List ℕ) (a : ℕ) → Naming z (length fresh) c → length (piece c a seconds) ≡ c
    → length (stripe_by z c L rows fresh seconds gs a) ≡ α z
unfolding stripe_by
length-stripe z legal c L rows fresh seconds gs a h l =
    let i : ℕ = get_or fresh a 0 in
    let rest : List ℕ = piece c a seconds ++ sent_by (length fresh) L gs i a in
    let lr : length rest ≡ c + (length fresh - 1) =
    length-append (piece c a seconds) (sent_by (length fresh) L gs i a) ∙ ap₂ ◌+◌ l (length-sent (length fresh) L gs i a) in
    length-finished z.n i L (z.d - 1) (drop (z.d * 32) (rows_of z.d z.r rows a)) (piece L a gs) rest
    ∙ ap (λ (m : ℕ). m + 1 + (z.d - 1)) lr ∙ omega (arith, h.whole, h.some, legal.some-fresh, legal.some_read, legal.read-helpers)
