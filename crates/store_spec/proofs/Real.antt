-- The code has the laws of the seam, at all legal sizes and different points: from demand 2.
-- Assumes nothing.
use Prim.Native.Nat.{ℕ, ◌+◌, ◌<◌}
use mathlib.Core.Path.{◌≡◌, refl, sym, ◌∙◌, ap, ap₂, subst}
use mathlib.Core.Bool.{true}
use mathlib.Core.List.{List, [], ◌∷◌, ◌++◌, append_assoc}
use mathlib.Core.Option.{some}
use native.Mathlib.Omega.{arith}
use lib.ListN.{length, length-append}
use Rattle.lists.specs.Lists.{Bytes, without, join, joined}
use Rattle.lists.specs.Tests.{among, below, different}
use Rattle.lists.proofs.Alls.{all-imp, all_left, all_right, distinct-left}
use Rattle.lists.proofs.Boards.{below_all, all-below, distinct, distinct-different, all_without, all-is-among, among-all, joined-all}
use Rattle.lists.proofs.Pieces.{joined_bytes}
use Rattle.sizes.specs.Sizing.{legal}
use Rattle.sizes.specs.declared.Sizes.{Sizes}
use Rattle.sizes.proofs.Legal.{legal-facts}
use Rattle.mbcr.specs.Demand2.{Demand2, S, symbol, packets_from_shares, Named}
use Rattle.mbcr.specs.Read.{read_file}
use Rattle.mbcr.specs.Rebuild.{finished_share, helper_packet, stand_in_packet, exchange_packet}
use Rattle.mbcr.specs.Share.{DifferentPoints, share, shares}
use Rattle.mbcr.proofs.Demand2.{demand-2}
use Rattle.mbcr.proofs.Points.{Boards}
use Rattle.mbcr.proofs.Repair.{length-share, length-packet, length-stand-in, length-exchange, length-finished}
use Rattle.store_spec.proofs.Named.{named-boards, named_count}
use Rattle.store_spec.proofs.Packets.{joined-append}
use Rattle.store_spec.proofs.Seam.{Hears, Lengths, AllLaws}

module _ (xs : List ℕ) (z : Sizes) (ok : legal z ≡ true) (pts : DifferentPoints z xs) where
  T : Demand2 z xs
  T = demand-2 z xs ok pts

  module _ (file : List ℕ) (bytes : Bytes file) (fresh : List ℕ) (helpers stand_ins : ℕ → List ℕ) (h : Hears z fresh helpers stand_ins) (i : ℕ) (e : among fresh i ≡ true) where
    named : Named z (z.d + z.r) (helpers i ++ (stand_ins i ++ without i fresh) ++ (i ∷ []))
    named =
        let low = below_all z.n fresh h.fresh-below in
        let known = below_all z.n (helpers i ++ stand_ins i) (h.named-below i e) in
        let b : Boards z (helpers i ++ stand_ins i ++ without i fresh ++ (i ∷ [])) =
        named-boards z fresh low h.fresh-different i e (helpers i ++ stand_ins i) known (h.named-different i e) (h.none-fresh i e) in
        let c : length (helpers i ++ stand_ins i ++ without i fresh ++ (i ∷ [])) ≡ z.d + z.r =
        named_count z fresh low h.fresh-different i e (helpers i ++ stand_ins i) known (h.named-different i e) (h.none-fresh i e)
        (simp length-append (let x = h.count i e in let y = h.stand-in-count i e in let t = h.few-fresh in omega arith)) in
        subst (λ (l : List ℕ). Named z (z.d + z.r) (l ++ (i ∷ []))) (append_assoc (helpers i) (stand_ins i) (without i fresh)) (
          c,
          all-below z.n (helpers i ++ stand_ins i ++ without i fresh ++ (i ∷ [])) b.known,
          distinct-different (helpers i ++ stand_ins i ++ without i fresh ++ (i ∷ [])) b.once,
        )

    -- what each partner sends: F(x_i, y_m) of each stripe
    sent : ℕ → List ℕ
    sent m = join (S z file) (λ s. symbol z xs file s i m ∷ [])

    stood : joined (λ j. stand_in_packet z xs (S z file) j i (share z xs file j)) (stand_ins i) ≡ joined sent (stand_ins i)
    unfolding sent
    stood =
        joined-all _ _ (stand_ins i)
        (all-imp (λ j. j < z.n) _ (λ j k. T.stand-in-true file bytes i j k) (stand_ins i)
        (all_right (λ x. x < z.n) (helpers i) (stand_ins i) (below_all z.n (helpers i ++ stand_ins i) (h.named-below i e))))

    swapped : joined (λ m. exchange_packet z xs (S z file) (helpers m) (joined (λ j. helper_packet z xs (S z file) j m (share z xs file j)) (helpers m)) i) (without i fresh)
        ≡ joined sent (without i fresh)
    unfolding sent packets_from_shares
    swapped =
        joined-all _ _ (without i fresh)
        (all-imp (λ m. among fresh m ≡ true) _
        (λ m k. T.exchange-true file bytes (helpers m) (
          h.count m k,
          all-below z.n (helpers m) (all_left (λ x. x < z.n) (helpers m) (stand_ins m) (below_all z.n (helpers m ++ stand_ins m) (h.named-below m k))),
          distinct-different (helpers m) (distinct-left (helpers m) (stand_ins m) (distinct (helpers m ++ stand_ins m) (h.named-different m k))),
        ) m i)
        (without i fresh) (all_without (λ m. among fresh m ≡ true) i fresh (all-is-among fresh)))

    rebuilt : finished_share z xs (S z file) i (helpers i)
        (joined (λ j. helper_packet z xs (S z file) j i (share z xs file j)) (helpers i))
        (stand_ins i ++ without i fresh)
        (joined (λ j. stand_in_packet z xs (S z file) j i (share z xs file j)) (stand_ins i)
        ++ joined (λ m. exchange_packet z xs (S z file) (helpers m) (joined (λ j. helper_packet z xs (S z file) j m (share z xs file j)) (helpers m)) i) (without i fresh))
        ≡ share z xs file i
    unfolding packets_from_shares sent
    rebuilt =
        ap (finished_share z xs (S z file) i (helpers i) (joined (λ j. helper_packet z xs (S z file) j i (share z xs file j)) (helpers i)) (stand_ins i ++ without i fresh))
        (ap₂ {C = List ℕ} (λ x y. x ++ y) stood swapped ∙ sym (joined-append sent (stand_ins i) (without i fresh)))
        ∙ T.finished-by-symbols file bytes i (helpers i) (stand_ins i ++ without i fresh) sent named (h.count i e)
        (among-all _ (stand_ins i ++ without i fresh) (λ m k. refl))

  reads : (file : List ℕ) → Bytes file → (boards : List ℕ) → length boards ≡ z.k → below z.n boards ≡ true → different boards ≡ true
      → read_file z xs (length file) boards (joined (share z xs file) boards) ≡ some file
  unfolding shares
  reads file bytes boards c l d = (T.read-file (length file) boards (joined (share z xs file) boards) file held (c, l, d)).1 (refl, bytes, refl)
    where
      held : Bytes (joined (share z xs file) boards)
      held = joined_bytes (share z xs file) boards (among-all (λ i. Bytes (share z xs file i)) boards (λ i k. T.share-bytes file bytes i))

pub code-lengths : (xs : List ℕ) (z : Sizes) → legal z ≡ true → Lengths xs z
code-lengths xs z ok =
    let f = legal-facts z ok in
    record {
      share-length = length-share z xs f;
      helper-length = length-packet z xs;
      stand-in-length = length-stand-in z xs;
      exchange-length = length-exchange z xs;
      finished-length = length-finished z xs f;
    }

pub code_laws : AllLaws
code_laws xs z ok pts = record { lengths = code-lengths xs z ok; rebuilt = rebuilt xs z ok pts; reads = reads xs z ok pts; adds = (T xs z ok pts).shares-add }
