-- `text_scan::note` meets its contract: at a place behind the list nothing is noted.
-- Assumes nothing.
use mathlib.Core.Path.{sym}
use lib.Seq.{set_out}
use borrow.Author.Rules.{rules}
use Rattle.text_scan.proofs.note.Statement.{statement}
use Rattle.text_scan.proofs.note.Tie as tie

returns-2 : tie.Need-returns-else-at-list
returns-2 c = sym (set_out _ _ _ c.if-at-list.false)

pub note_spec : {M : Type 1} → statement M
note_spec = tie.close (tie.spec (λ c. search rules) (λ c. search rules) (λ c. search rules) (λ c. search rules) returns-2)
