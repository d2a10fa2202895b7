-- What boards hold, over any area of bytes: lengths, bytes, and that k boards hold a file just where each of them holds its share of it.
-- Assumes nothing.
use Prim.Native.Nat.{ℕ, ◌*◌, ◌<◌}
use mathlib.Core.Path.{◌≡◌, sym, ◌∙◌, ap}
use mathlib.Core.Logic.{◌↔◌}
use mathlib.Core.List.{List}
use mathlib.Core.Bool.{true}
use mathlib.Core.Option.{some, none}
use native.Mathlib.Omega.{arith}
use lib.ListN.{length, drop, length-drop}
use lib.Seq.{length-take-le}
use Rattle.lists.specs.Lists.{All, Bytes, joined}
use Rattle.lists.specs.Tests.{below}
use Rattle.lists.proofs.Alls.{take-alls, drop-alls, all-imp}
use Rattle.lists.proofs.Boards.{among-all, joined-parts, below_all, joined-all}
use Rattle.lists.proofs.Pieces.{joined_bytes}
use Rattle.lists.proofs.Put.{part_end}
use Rattle.sizes.specs.Sizing.{stripes, α}
use Rattle.mbcr.specs.Demand2.{Demand2, Named}
use Rattle.mbcr.specs.Share.{shares, share}
use Rattle.mbcr.proofs.Demand2.{demand-2}
use Rattle.store_spec.specs.Calls.{file_held}
use Rattle.store_spec.specs.Record.{Record, held, used_len, part_len, area_len}
use Rattle.store_spec.proofs.Records.{Sound, sound-points, used-fits}

module _ (s : Record) (area : List ℕ) (g : Sound s) (area-is : length area ≡ area_len s) where
  pub code : Demand2 s.sizes s.points
  code = demand-2 s.sizes s.points g.is-legal (sound-points s g)

  pub held-long : (i : ℕ) → i < s.sizes.n → length (held s area i) ≡ used_len s
  held-long i l =
      length-take-le (used_len s) (drop (i * part_len s) area)
      (rw length-drop (omega (arith, part_end i (part_len s) s.sizes.n l, area-is, used-fits s g)))

  -- board by board, or as one list
  module _ (boards : List ℕ) (low : below s.sizes.n boards ≡ true) (file : List ℕ) (l : length file ≡ s.length) where
    pub shares_each : shares s.sizes s.points file boards ≡ joined (held s area) boards → All (λ i. held s area i ≡ share s.sizes s.points file i) boards
    unfolding shares
    shares_each e =
        joined-parts (held s area) (share s.sizes s.points file) boards
        (all-imp (λ i. i < s.sizes.n) _ (λ i k. held-long i k ∙ ap (λ (m : ℕ). stripes s.sizes m * α s.sizes) (sym l) ∙ sym (code.share-length file i)) boards
        (below_all s.sizes.n boards low))
        (sym e)

    pub each-shares : All (λ i. held s area i ≡ share s.sizes s.points file i) boards → shares s.sizes s.points file boards ≡ joined (held s area) boards
    unfolding shares
    each-shares a = sym (joined-all (held s area) (share s.sizes s.points file) boards a)

  module _ (ba : Bytes area) where
    pub held_bytes : (i : ℕ) → Bytes (held s area i)
    held_bytes i = take-alls (λ a. a < 256) (used_len s) _ (drop-alls (λ a. a < 256) (i * part_len s) area ba)

    module _ (boards : List ℕ) (named : Named s.sizes s.sizes.k boards) where
      all-bytes : Bytes (joined (held s area) boards)
      all-bytes = joined_bytes (held s area) boards (among-all (λ i. Bytes (held s area i)) boards (λ i e. held_bytes i))

      pub file-has : (file : List ℕ) → file_held s area boards ≡ some file
          → (length file ≡ s.length) × Bytes file × All (λ i. held s area i ≡ share s.sizes s.points file i) boards
      file-has file e =
          let p = (code.read-file s.length boards (joined (held s area) boards) file all-bytes named).0 e in
          (p.0, p.1, shares_each boards named.1 file p.0 p.2)

      pub file-is : (file : List ℕ) → length file ≡ s.length → Bytes file → All (λ i. held s area i ≡ share s.sizes s.points file i) boards
          → file_held s area boards ≡ some file
      file-is file l bf a =
          (code.read-file s.length boards (joined (held s area) boards) file all-bytes named).1 (l, bf, each-shares boards named.1 file l a)

      pub no-file : (file_held s area boards ≡ none)
          ↔ ((file : List ℕ) → length file ≡ s.length → Bytes file → All (λ i. held s area i ≡ share s.sizes s.points file i) boards → ⊥)
      no-file = (
        (λ e file l bf a. is.0 e file l bf (each-shares boards named.1 file l a)),
        (λ f. is.1 (λ file l bf e. f file l bf (shares_each boards named.1 file l e))),
      )
        where
          is : (file_held s area boards ≡ none)
              ↔ ((file : List ℕ) → length file ≡ s.length → Bytes file → shares s.sizes s.points file boards ≡ joined (held s area) boards → ⊥)
          is = code.read_none s.length boards (joined (held s area) boards) all-bytes named
