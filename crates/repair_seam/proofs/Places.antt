-- A repair of one stripe by the boards' places in their lists is that by their numbers.
-- Assumes nothing.
use Prim.Native.Nat.{ℕ, ◌*◌, ◌-◌, ◌<◌}
use mathlib.Core.Path.{◌≡◌, sym, ap, ap₂, ◌∙◌}
use mathlib.Core.Bool.{true}
use mathlib.Core.List.{List, ◌++◌, map}
use native.Mathlib.Omega.{arith}
use lib.ListN.{length, get_or, take, drop, length-map}
use lib.Seq.{take_at, drop_at}
use Rattle.lists.specs.Tests.{different}
use Rattle.lists.specs.Lists.{piece, without}
use Rattle.lists.proofs.Pieces.{tabulate-ext, map-tabulate, map-append, piece-join, length-piece}
use Rattle.sizes.specs.declared.Sizes.{Sizes}
use Rattle.sizes.proofs.Legal.{row_fits}
use Rattle.polynomial.specs.Polynomial.{eval}
use Rattle.mbcr.specs.Share.{point}
use Rattle.mbcr.specs.Rebuild.{own_f, own_g, g_from, finished_stripe}
use Rattle.store_spec.specs.Stripes.{firsts, seconds, exchanged_byte, stood_in, fresh_stripe}
use Rattle.repair_hear.specs.Steps.{Naming, firsts_of, seconds_of}
use Rattle.repair_rows.specs.Steps.{past, others_at, helpers_at}
use Rattle.repair_rows.proofs.Others.{past-below}
use Rattle.repair_rows.proofs.Without.{without-place}
use Rattle.repair_stripe.specs.Steps.{polys_of, sent_at, stripe_at, all_firsts, all_seconds, rebuilt}
use Rattle.repair_stripe.proofs.Rebuilt.{length-firsts, length-poly}

-- the b-th run of c boards is the d helpers of the b-th fresh board, then its stand-ins
module _ (z : Sizes) (xs : List ℕ) (own : ℕ → List ℕ) (fresh : List ℕ) (c : ℕ) (named : List ℕ) (H Si : ℕ → List ℕ) (nc : Naming z (length fresh) c)
    (ln : length named ≡ length fresh * c) (once : different fresh ≡ true)
    (runs : (b : ℕ) → b < length fresh → piece c b named ≡ H (get_or fresh b 0) ++ Si (get_or fresh b 0))
    (count : (b : ℕ) → b < length fresh → length (H (get_or fresh b 0)) ≡ z.d) where
  open z use {d, r}

  abbrev t : ℕ
  t = length fresh

  long : (b : ℕ) → b < t → length (piece c b named) ≡ c
  long b h = length-piece c b named (omega (arith, ln, row_fits b t c h))

  helpers-at : (b : ℕ) → b < t → helpers_at z c named b ≡ H (get_or fresh b 0)
  helpers-at b h = ap (take d) (runs b h) ∙ take_at (H (get_or fresh b 0)) (Si (get_or fresh b 0)) d (count b h)

  stand-ins-at : (b : ℕ) → b < t → drop d (piece c b named) ≡ Si (get_or fresh b 0)
  stand-ins-at b h = ap (drop d) (runs b h) ∙ drop_at (H (get_or fresh b 0)) (Si (get_or fresh b 0)) d (count b h)

  -- what is heard of both, by a function of the sender
  both : (f : ℕ → ℕ) (b : ℕ) → b < t → map f (piece c b named) ≡ map f (H (get_or fresh b 0)) ++ map f (Si (get_or fresh b 0))
  both f b h = ap (map f) (runs b h) ∙ map-append f (H (get_or fresh b 0)) (Si (get_or fresh b 0))

  front : (f : ℕ → ℕ) (b : ℕ) → b < t → take d (map f (piece c b named)) ≡ map f (H (get_or fresh b 0))
  front f b h =
      ap (take d) (both f b h) ∙ take_at (map f (H (get_or fresh b 0))) (map f (Si (get_or fresh b 0))) d (length-map (H (get_or fresh b 0)) f ∙ count b h)

  back : (f : ℕ → ℕ) (b : ℕ) → b < t → drop d (map f (piece c b named)) ≡ map f (Si (get_or fresh b 0))
  back f b h =
      ap (drop d) (both f b h) ∙ drop_at (map f (H (get_or fresh b 0))) (map f (Si (get_or fresh b 0))) d (length-map (H (get_or fresh b 0)) f ∙ count b h)

  all-firsts : (b : ℕ) → b < t → piece c b (all_firsts z xs own fresh c named) ≡ firsts_of z xs own (get_or fresh b 0) (piece c b named)
  all-firsts b h = piece-join t c _ (λ a k. length-map (piece c a named) _ ∙ long a k) b h

  all-seconds : (b : ℕ) → b < t → piece c b (all_seconds z xs own fresh c named) ≡ seconds_of z xs own (get_or fresh b 0) (piece c b named)
  all-seconds b h = piece-join t c _ (λ a k. length-map (piece c a named) _ ∙ long a k) b h

  firsts_at : (b : ℕ) → b < t → helpers_at z c (all_firsts z xs own fresh c named) b ≡ firsts z xs own fresh H (get_or fresh b 0)
  unfolding firsts
  firsts_at b h = ap (take d) (all-firsts b h) ∙ front (λ j. eval (own_f z xs j (own j)) (point xs (get_or fresh b 0))) b h

  seconds-at : (b : ℕ) → b < t → helpers_at z c (all_seconds z xs own fresh c named) b ≡ seconds z xs own fresh H (get_or fresh b 0)
  unfolding seconds
  seconds-at b h = ap (take d) (all-seconds b h) ∙ front (λ j. eval (own_g z xs j (own j)) (point xs (get_or fresh b 0))) b h

  stood-at : (b : ℕ) → b < t → drop d (piece c b (all_seconds z xs own fresh c named)) ≡ stood_in z xs own fresh H Si (get_or fresh b 0)
  unfolding stood_in
  stood-at b h = ap (drop d) (all-seconds b h) ∙ back (λ j. eval (own_g z xs j (own j)) (point xs (get_or fresh b 0))) b h

  abbrev G : List ℕ
  G = polys_of z t c xs named (all_firsts z xs own fresh c named)

  poly-at : (b : ℕ) → b < t → piece d b G ≡ g_from z xs (H (get_or fresh b 0)) (firsts z xs own fresh H (get_or fresh b 0))
  poly-at b h =
      piece-join t d _
      (λ a k. length-poly z c t xs named (all_firsts z xs own fresh c named) a nc.helps (omega (arith, ln)) (omega (arith, length-firsts z xs fresh c named own ln)) k) b h
      ∙ ap₂ {C = List ℕ} (λ (hs fs : List ℕ). g_from z xs hs fs) (helpers-at b h) (firsts_at b h)

  sent-at : (a : ℕ) → a < t → sent_at z t G (point xs (get_or fresh a 0)) a ≡ map (λ m. exchanged_byte z xs own fresh H m (get_or fresh a 0)) (others_at fresh a)
  unfolding exchanged_byte
  sent-at a h =
      tabulate-ext (t - 1) _ _ (λ u k. ap (λ (p : List ℕ). eval p (point xs (get_or fresh a 0))) (poly-at (past a u) (past-below a u t k)))
      ∙ sym (map-tabulate (λ m. exchanged_byte z xs own fresh H m (get_or fresh a 0)) (t - 1) (λ u. get_or fresh (past a u) 0))

  pub stripe-same : (a : ℕ) → a < t → fresh_stripe z xs own fresh H Si (get_or fresh a 0) ≡ rebuilt z xs own fresh c named a
  unfolding fresh_stripe rebuilt stripe_at
  stripe-same a h =
      let i : ℕ = get_or fresh a 0 in
      let first : List ℕ = firsts z xs own fresh H i in
      let second : List ℕ = seconds z xs own fresh H i in
      let swapped : List ℕ = map (λ m. exchanged_byte z xs own fresh H m i) (others_at fresh a) in
      let w : without i fresh ≡ others_at fresh a = without-place fresh a (t - 1) once h (omega arith) in
      ap (λ (l : List ℕ). finished_stripe z xs i (H i) first second (Si i ++ l) (stood_in z xs own fresh H Si i ++ map (λ m. exchanged_byte z xs own fresh H m i) l)) w
      ∙ ap₂ {C = List ℕ} (λ (hs ss : List ℕ). finished_stripe z xs i hs first second (ss ++ others_at fresh a) (stood_in z xs own fresh H Si i ++ swapped))
      (sym (helpers-at a h)) (sym (stand-ins-at a h))
      ∙ ap₂ {C = List ℕ} (λ (f s : List ℕ). finished_stripe z xs i (helpers_at z c named a) f s (drop d (piece c a named) ++ others_at fresh a) (stood_in z xs own fresh H Si i ++ swapped))
      (sym (firsts_at a h)) (sym (seconds-at a h))
      ∙ ap₂ {C = List ℕ} (λ (x y : List ℕ). finished_stripe z xs i (helpers_at z c named a) (helpers_at z c (all_firsts z xs own fresh c named) a)
      (helpers_at z c (all_seconds z xs own fresh c named) a) (drop d (piece c a named) ++ others_at fresh a) (x ++ y))
      (sym (stood-at a h)) (sym (sent-at a h))
