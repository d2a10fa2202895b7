-- The stripes that an edit reaches are all of it, whatever the file's length.
-- Assumes nothing.
use mathlib.Core.Path.{◌≡◌, ap, ap₂, ◌∙◌}
use mathlib.Core.List.{List, map}
use Prim.Native.Nat.{ℕ, ◌+◌, ◌-◌, ◌*◌, ◌/◌}
use lib.ListN.{length}
use Rattle.std.specs.Prelude.{Ok}
use Rattle.sizes.specs.Refusals.{first, store_order}
use Rattle.sizes.specs.Sizing.{B, stripes}
use Rattle.sizes.proofs.Legal.{Legal}
use Rattle.board_spec.specs.Calls.{file_of}
use Rattle.store_spec.specs.Calls.{file_held}
use Rattle.store_spec.specs.Edit.{edit_lines, edited_share}
use Rattle.store_spec.specs.Record.{Record, serving, part_len, put_shares}
use Rattle.store_spec.proofs.Records.{edit-facts}
use Rattle.edit_laws.specs.Steps.{stripes_edited}
use Rattle.edit_laws.proofs.Edited.{edited}
use Rattle.edit_stripes.proofs.Reach.{first-from, stop-high, stop-low}

module _ (s : Record) (legal : Legal s.sizes) (area : List ℕ) (offset : ℕ) (bytes boards : List ℕ)
    (pass : first store_order (edit_lines s area offset bytes boards) ≡ Ok tt) where
  abbrev reached : List ℕ → ℕ → List ℕ → List ℕ
  reached starts part on =
      stripes_edited s.sizes s.points boards starts part on offset bytes (offset / B s.sizes)
      (stripes s.sizes (offset + length bytes) - offset / B s.sizes) area

  pub whole : (starts on : List ℕ) (part : ℕ) (after : List ℕ) → starts ≡ map (λ b. b * part_len s) boards → part ≡ part_len s → on ≡ serving s → after ≡ reached starts part on
      → after ≡ put_shares s (edited_share s area (file_of (file_held s area boards)) offset bytes) (serving s) area
  whole starts on part after es ep eo ea =
      ea ∙ ap₂ {C = List ℕ} (λ (l : List ℕ) (m : ℕ). reached l m on) es ep ∙ ap (reached (map (λ b. b * part_len s) boards) (part_len s)) eo
      ∙ edited s area offset bytes boards pass (offset / B s.sizes) (stripes s.sizes (offset + length bytes) - offset / B s.sizes)
      (first-from s.sizes legal offset (length bytes)) (stop-high s.sizes legal offset (length bytes))
      (stop-low s.sizes legal offset (length bytes) s.length (edit-facts s area offset bytes boards pass).1)
