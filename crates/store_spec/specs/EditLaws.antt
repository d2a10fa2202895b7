-- Request A.6: what an accepted edit does, over any record and any area. proofs/EditLaws.antt has `edit-laws : EditLaws`.
-- Assumes nothing.
use Rattle.std.specs.Prelude.{◌≡◌, true, ◌⊎◌, List, [], ℕ, suc, ◌+◌, ◌*◌, ◌≤◌, ◌<◌, length, get_or}
use Rattle.lists.specs.Lists.{All, Bytes, piece, put}
use Rattle.sizes.specs.Sizing.{α, B}
use Rattle.polynomial.specs.Polynomial.{plus}
use Rattle.mbcr.specs.Share.{share}
use Rattle.store_spec.specs.Record.{Record, in_service, stripe_count, part_len, used_len, held}
use Rattle.store_spec.specs.Calls.{accepted}
use Rattle.store_spec.specs.Edit.{edit_call}

-- an edit reaches a stripe: some byte of it lies in the stripe's B
abbrev pub Reached : Record → ℕ → List ℕ → ℕ → Type 0
Reached s offset bytes t = (1 ≤ length bytes) × (offset < suc t * B s.sizes) × (t * B s.sizes < offset + length bytes)

module _ (s : Record) (area : List ℕ) (offset : ℕ) (bytes boards : List ℕ) where
  pub record Edited : Type 0 where
    -- "each board in service receives the exclusive or of its share with the share of old against new bytes": `file` is the one that the k boards
    -- hold
    pub has : (file : List ℕ) → Bytes area → length file ≡ s.length → Bytes file → All (λ i. held s area i ≡ share s.sizes s.points file i) boards
        → (i : ℕ) → in_service s i ≡ true
        → held s (edit_call s area offset bytes boards).area i
        ≡ plus (held s area i) (share s.sizes s.points (plus file (put file offset bytes)) i)
    -- "Stripes that the edit doesn't reach stay byte for byte"
    pub stripes-stay : (i t : ℕ) → in_service s i ≡ true → t < stripe_count s → (Reached s offset bytes t → ⊥)
        → piece (α s.sizes) t (held s (edit_call s area offset bytes boards).area i) ≡ piece (α s.sizes) t (held s area i)
    -- "as do boards out of service", and all other bytes
    pub as_long : length (edit_call s area offset bytes boards).area ≡ length area
    pub others-stay : (p : ℕ) → ((i : ℕ) → in_service s i ≡ true → (p < i * part_len s) ⊎ (i * part_len s + used_len s ≤ p))
        → get_or (edit_call s area offset bytes boards).area p 0 ≡ get_or area p 0

pub record EditLaws : Type 0 where
  pub edited : (s : Record) (area : List ℕ) (offset : ℕ) (bytes boards : List ℕ) → (edit_call s area offset bytes boards).answer.refusal ≡ 0
      → Edited s area offset bytes boards
  -- "An edit of no bytes is accepted and changes nothing, once it has passed all the checks that follow, DISAGREE too."
  pub no_bytes : (s : Record) (area : List ℕ) (offset : ℕ) (boards : List ℕ) → (edit_call s area offset [] boards).answer.refusal ≡ 0
      → edit_call s area offset [] boards ≡ accepted 0 s area []
