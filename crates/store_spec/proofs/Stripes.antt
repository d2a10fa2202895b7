-- The packets of a repair, stripe by stripe: a fresh share is its finished stripes, each from the same stripe of the helpers.
use Prim.Native.Nat.{ℕ, zero, suc, ◌+◌, ◌-◌, ◌*◌, ◌<◌}
use mathlib.Core.Path.{◌≡◌, refl, sym, ◌∙◌, ap, ap₂, subst}
use mathlib.Core.Bool.{true}
use mathlib.Core.List.{List, [], ◌∷◌, ◌++◌, map}
use native.Mathlib.Omega.{arith}
use lib.ListN.{length, get_or, length-append, length-map}
use lib.Seq.{take_at, drop_at}
use Rattle.lists.specs.Lists.{tabulate, concat, joined, without, join, piece, All}
use Rattle.lists.specs.Tests.{among}
use Rattle.lists.proofs.Alls.{all-imp, append-all}
use Rattle.lists.proofs.Boards.{all_without, all-is-among, among-all}
use Rattle.lists.proofs.Pieces.{tabulate-ext, tabulate-at, tabulate-map, map-append, piece-zero, piece-suc, piece-at, join-ext, piece-join, length-join, join-joined, join-ones}
use Rattle.sizes.specs.Refusals.{first, store_order}
use Rattle.sizes.specs.Sizing.{α, legal}
use Rattle.std.specs.Prelude.{Ok}
use Rattle.sizes.specs.declared.Sizes.{Sizes}
use Rattle.polynomial.specs.Polynomial.{eval}
use Rattle.mbcr.specs.Rebuild.{own_g, helper_pair, helper_packet, stand_in_packet, received, g_from, exchange_packet, finished_share, exchanged}
use Rattle.mbcr.specs.Share.{point}
use Rattle.mbcr.proofs.Places.{stand-in-place}
use Rattle.mbcr.proofs.Repair.{length-stand-in, length-exchange}
use Rattle.store_spec.specs.Calls.{repair_call, repair_lines, repair_done}
use Rattle.store_spec.specs.Packets.{fresh_share, senders_of, sent_to, helper_packets, stand_in_packets}
use Rattle.store_spec.specs.Record.{Record, held, stripe_count}
use Rattle.store_spec.specs.Stripes.{firsts, seconds, exchanged_byte, stood_in, fresh_stripe, ByStripes}
use Rattle.store_spec.proofs.Passed.{passes}
use Rattle.store_spec.proofs.Packets.{concat-append}
use Rattle.store_spec.proofs.Real.{code-lengths}
use Rattle.store_spec.proofs.Records.{Repairs, repair-facts, sound-facts}
use Rattle.store_spec.proofs.Repair.{heard_by, stood_by, heard-count, stood-count, partner-count, fresh-by}

-- the q-th of pieces of one width
nth : (f : ℕ → List ℕ) (w : ℕ) → ((j : ℕ) → length (f j) ≡ w) → (l : List ℕ) (q : ℕ) → q < length l → piece w q (joined f l) ≡ f (get_or l q 0)
nth f w long l q h =
    ap (piece w q) (sym (join-joined f l)) ∙ piece-join (length l) w (λ t. f (get_or l t 0)) (λ t k. long (get_or l t 0)) q h

-- the same of any list of them
nth_of : (w : ℕ) (ps : List (List ℕ)) → All (λ p. length p ≡ w) ps → (q : ℕ) → q < length ps → piece w q (concat ps) ≡ get_or ps q []
nth_of w [] a q h = absurd (omega arith)
nth_of w (p ∷ ps) a zero h = piece-zero w (p ++ concat ps) ∙ take_at p (concat ps) w a.0
nth_of w (p ∷ ps) a (suc q) h =
    piece-suc w q (p ++ concat ps) ∙ ap (piece w q) (drop_at p (concat ps) w a.0) ∙ nth_of w ps a.1 q (omega arith)

map-all : (f g : ℕ → ℕ) (l : List ℕ) → All (λ x. f x ≡ g x) l → map f l ≡ map g l
map-all f g [] a = refl
map-all f g (x ∷ l) a = ap₂ {C = List ℕ} (λ y m. y ∷ m) a.0 (map-all f g l a.1)

map-twice : (f : ℕ → List ℕ) (g : List ℕ → ℕ) (l : List ℕ) → map g (map f l) ≡ map (λ x. g (f x)) l
map-twice f g [] = refl
map-twice f g (x ∷ l) = ap (λ (m : List ℕ). g (f x) ∷ m) (map-twice f g l)

all_map : (f : ℕ → List ℕ) (w : ℕ) → ((x : ℕ) → length (f x) ≡ w) → (l : List ℕ) → All (λ p. length p ≡ w) (map f l)
all_map f w h [] = tt
all_map f w h (x ∷ l) = (h x, all_map f w h l)

module _ (z : Sizes) (xs : List ℕ) (S : ℕ) (hold : ℕ → List ℕ) where
  -- what board j holds of stripe t
  own : ℕ → ℕ → List ℕ
  own t j = piece (α z) t (hold j)

  sent : ℕ → ℕ → List ℕ
  sent i j = helper_packet z xs S j i (hold j)

  pair-at : (i j t : ℕ) → t < S → piece 2 t (sent i j) ≡ helper_pair z xs j i (own t j)
  unfolding sent own helper_packet helper_pair
  pair-at i j t h = piece-join S 2 (λ s. helper_pair z xs j i (piece (α z) s (hold j))) (λ s k. refl) t h

  long-sent : (i j : ℕ) → length (sent i j) ≡ 2 * S
  unfolding sent helper_packet helper_pair
  long-sent i j = length-join S 2 (λ s. helper_pair z xs j i (piece (α z) s (hold j))) (λ s k. refl) ∙ omega arith

  heard : (b i t : ℕ) (hs : List ℕ) → length hs ≡ z.d → t < S
      → received z S b t (joined (sent i) hs) ≡ map (λ j. get_or (helper_pair z xs j i (own t j)) b 0) hs
  unfolding received
  heard b i t hs l h =
      tabulate-ext z.d _ _
      (λ q k.
      ap (λ (x : List ℕ). get_or (piece 2 t x) b 0) (nth (sent i) (2 * S) (long-sent i) hs q (subst (λ (n : ℕ). q < n) (sym l) k))
      ∙ ap (λ (x : List ℕ). get_or x b 0) (pair-at i (get_or hs q 0) t h))
      ∙ tabulate-map (λ j. get_or (helper_pair z xs j i (own t j)) b 0) z.d hs 0 l

  -- ---- one fresh board

  module _ (fresh : List ℕ) (H : ℕ → List ℕ) (count : (m : ℕ) → among fresh m ≡ true → length (H m) ≡ z.d) where
    firsts_at : (m : ℕ) → among fresh m ≡ true → (t : ℕ) → t < S → received z S 0 t (joined (sent m) (H m)) ≡ firsts z xs (own t) fresh H m
    unfolding firsts helper_pair
    firsts_at m e t h = heard 0 m t (H m) (count m e) h

    seconds-at : (m : ℕ) → among fresh m ≡ true → (t : ℕ) → t < S → received z S 1 t (joined (sent m) (H m)) ≡ seconds z xs (own t) fresh H m
    unfolding seconds helper_pair
    seconds-at m e t h = heard 1 m t (H m) (count m e) h

    swap : ℕ → ℕ → List ℕ
    swap i m = exchange_packet z xs S (H m) (joined (sent m) (H m)) i

    swap_at : (i m : ℕ) → among fresh m ≡ true → (t : ℕ) → t < S → get_or (swap i m) t 0 ≡ exchanged_byte z xs (own t) fresh H m i
    unfolding swap exchange_packet exchanged_byte
    swap_at i m e t h =
        ap (λ (l : List ℕ). get_or l t 0) (join-ones S (λ s. eval (g_from z xs (H m) (received z S 0 s (joined (sent m) (H m)))) (point xs i)))
        ∙ tabulate-at S _ 0 t h
        ∙ ap (λ (x : List ℕ). eval (g_from z xs (H m) x) (point xs i)) (firsts_at m e t h)

    long-swap : (i m : ℕ) → length (swap i m) ≡ S
    unfolding swap
    long-swap i m = length-exchange z xs S (H m) (joined (sent m) (H m)) i

    stood : ℕ → ℕ → List ℕ
    stood i j = stand_in_packet z xs S j i (hold j)

    stood-at : (i j t : ℕ) → t < S → get_or (stood i j) t 0 ≡ eval (own_g z xs j (own t j)) (point xs i)
    unfolding stood sent helper_pair
    stood-at i j t h =
        stand-in-place z xs S j i (hold j) t h
        ∙ sym (piece-at 2 t (helper_packet z xs S j i (hold j)) 1 0 (omega arith))
        ∙ ap (λ (p : List ℕ). get_or p 1 0) (pair-at i j t h)

    long-stood : (i j : ℕ) → length (stood i j) ≡ S
    unfolding stood
    long-stood i j = length-stand-in z xs S j i (hold j)

    module _ (H2 : ℕ → List ℕ) where
      -- byte t of each partner's packet: the stand-ins' and then those of the other fresh boards
      exchanged-at : (i : ℕ) (partners : List ℕ) → length (H2 i) + length partners ≡ z.r - 1 → All (λ m. among fresh m ≡ true) partners → (t : ℕ) → t < S
          → exchanged z S t (joined (stood i) (H2 i) ++ joined (swap i) partners)
          ≡ stood_in z xs (own t) fresh H H2 i ++ map (λ m. exchanged_byte z xs (own t) fresh H m i) partners
      unfolding exchanged stood_in
      exchanged-at i partners l a t h =
          let ps : List (List ℕ) = map (stood i) (H2 i) ++ map (swap i) partners in
          let n : length ps ≡ z.r - 1 =
          length-append (map (stood i) (H2 i)) (map (swap i) partners) ∙ ap₂ ◌+◌ (length-map (H2 i) (stood i)) (length-map partners (swap i)) ∙ l in
          let w : All (λ p. length p ≡ S) ps =
          append-all (λ p. length p ≡ S) (map (stood i) (H2 i)) (map (swap i) partners) (all_map (stood i) S (long-stood i) (H2 i)) (all_map (swap i) S (long-swap i) partners) in
          ap (λ (x : List ℕ). tabulate (z.r - 1) (λ q. get_or (piece S q x) t 0)) (sym (concat-append (map (stood i) (H2 i)) (map (swap i) partners)))
          ∙ tabulate-ext (z.r - 1) _ (λ q. get_or (get_or ps q []) t 0) (λ q k. ap (λ (x : List ℕ). get_or x t 0) (nth_of S ps w q (omega arith)))
          ∙ tabulate-map (λ p. get_or p t 0) (z.r - 1) ps [] n
          ∙ map-append (λ p. get_or p t 0) (map (stood i) (H2 i)) (map (swap i) partners)
          ∙ ap₂ {C = List ℕ} (λ x y. x ++ y)
          (map-twice (stood i) (λ p. get_or p t 0) (H2 i) ∙ map-all _ _ (H2 i) (among-all _ (H2 i) (λ j k. stood-at i j t h)))
          (map-twice (swap i) (λ p. get_or p t 0) partners ∙ map-all _ _ partners (all-imp (λ m. among fresh m ≡ true) _ (λ m k. swap_at i m k t h) partners a))

      by-stripes : (i : ℕ) → among fresh i ≡ true → length (H2 i) + length (without i fresh) ≡ z.r - 1
          → finished_share z xs S i (H i) (joined (sent i) (H i)) (H2 i ++ without i fresh) (joined (stood i) (H2 i) ++ joined (swap i) (without i fresh))
          ≡ join S (λ t. fresh_stripe z xs (own t) fresh H H2 i)
      unfolding finished_share fresh_stripe
      by-stripes i e l =
          join-ext S _ _
          (λ t h.
          let a = firsts_at i e t h in
          let b = seconds-at i e t h in
          let x = exchanged-at i (without i fresh) l (all_without (λ m. among fresh m ≡ true) i fresh (all-is-among fresh)) t h in
          cc)

-- ---- an accepted repair

module _ (s : Record) (area fresh helpers stand_ins : List ℕ) (h : (repair_call s area fresh helpers stand_ins).answer.refusal ≡ 0) where
  pass : first store_order (repair_lines s (length area) fresh helpers stand_ins) ≡ Ok tt
  unfolding repair_call
  pass = passes (first store_order (repair_lines s (length area) fresh helpers stand_ins)) s area [] (repair_done s area fresh helpers stand_ins) h

  f : Repairs s (length area) fresh helpers stand_ins
  f = repair-facts s (length area) fresh helpers stand_ins pass

  legal-is : legal s.sizes ≡ true
  legal-is = (sound-facts s f.is-sound).is-legal

  fresh-stripes : (i : ℕ) → among fresh i ≡ true
      → fresh_share s area fresh helpers stand_ins i
      ≡ join (stripe_count s)
      (λ t. fresh_stripe s.sizes s.points (λ j. piece (α s.sizes) t (held s area j)) fresh
      (λ m. senders_of (sent_to m (helper_packets s area fresh helpers))) (λ m. senders_of (sent_to m (stand_in_packets s area fresh stand_ins))) i)
  unfolding own sent swap stood heard_by stood_by
  fresh-stripes i e =
      let l = code-lengths s.points s.sizes legal-is in
      let p = partner-count s area fresh helpers stand_ins (length area) l f i e in
      let q = stood-count s area fresh helpers stand_ins (length area) l f i e in
      let w = f.few-fresh in
      fresh-by s area fresh helpers stand_ins (length area) l f i e
      ∙ by-stripes s.sizes s.points (stripe_count s) (held s area) fresh (heard_by s area fresh helpers stand_ins (length area) l f)
      (heard-count s area fresh helpers stand_ins (length area) l f) (stood_by s area fresh helpers stand_ins (length area) l f) i e (omega arith)

pub repair-by-stripes : ByStripes
repair-by-stripes = fresh-stripes
