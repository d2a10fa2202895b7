-- The laws of specs/Laws.antt.
-- Assumes nothing.
use mathlib.Core.Path.{◌≡◌, ap, fun_ext, ◌∙◌}
use mathlib.Core.List.{List}
use Prim.Native.Nat.{ℕ}
use Rattle.number_lines.specs.Lines.{line}
use Rattle.number_lines.specs.Steps.{begin, capped, reads}
use Rattle.number_lines.specs.Laws.{LineLaws}
use Rattle.number_lines.proofs.Forms.{line_taken, line-else}
use Rattle.number_lines.proofs.Onward.{reads-onward}

module _ {A : Type 0} (bad : A) (name : List ℕ) (most : ℕ) where
  byte-by-byte : (input : List ℕ) (go : ℕ → List ℕ → A) → reads bad name most begin input go ≡ line bad name input (λ v rest. go (capped most v) rest)
  byte-by-byte input go = reads-onward bad name most go input begin

  goes-on : (go then : ℕ → List ℕ → A) → ((v : ℕ) (rest : List ℕ) → go (capped most v) rest ≡ then v rest)
      → (input : List ℕ) → reads bad name most begin input go ≡ line bad name input then
  goes-on go then same input = byte-by-byte input go ∙ ap (line bad name input) (fun_ext (λ v. fun_ext (λ rest. same v rest)))

pub line-laws : LineLaws
line-laws = record { taken = line_taken; else-malformed = line-else; byte-by-byte = byte-by-byte; goes-on = goes-on }
