-- A line byte by byte: what a reader gives after each byte, for any name and any bound.
-- Assumes nothing.
use Rattle.std.specs.Prelude.{List, [], ◌∷◌, ℕ, ◌+◌, ◌*◌, ◌-◌, ltb, eqb, length, get_or}
use Rattle.lists.specs.Tests.{pick}
use Rattle.number_lines.specs.declared.Reader.{Reader}
use Rattle.number_lines.specs.declared.Read.{Read}
use Rattle.number_lines.specs.declared.Read.TheVariants.{More, Whole, Malformed}
use Rattle.number_lines.specs.Lines.{digit}

abbrev pub begin : Reader
begin = record { part = 0; at = 0; value = 0 }

-- a number of `most` or more is held as `most`
abbrev pub capped : ℕ → ℕ → ℕ
capped most v = pick (ltb v most) v most

abbrev pub fed_lone : ℕ → Read
fed_lone b = pick (eqb b 0x0A) (Whole 0) Malformed

abbrev pub fed_digits : ℕ → Reader → ℕ → Read
fed_digits most r b =
    pick (eqb b 0x0A) (Whole (capped most r.value))
    (pick (digit b) (More (record { part = 2; at = r.at; value = capped most (10 * r.value + (b - 0x30)) })) Malformed)

abbrev pub fed_first : ℕ → Reader → ℕ → Read
fed_first most r b =
    pick (eqb b 0x30) (More (record { part = 1; at = r.at; value = 0 }))
    (pick (digit b) (More (record { part = 2; at = r.at; value = capped most (b - 0x30) })) Malformed)

abbrev pub fed_name : List ℕ → Reader → ℕ → Read
fed_name name r b = pick (eqb b (get_or name r.at 0)) (More (record { part = r.part; at = r.at + 1; value = r.value })) Malformed

-- what a byte gives
unfoldable pub fed : List ℕ → ℕ → Reader → ℕ → Read
fed name most r b =
    pick (eqb r.part 1) (fed_lone b)
    (pick (eqb r.part 2) (fed_digits most r b) (pick (ltb r.at (length name)) (fed_name name r b) (fed_first most r b)))

-- by what was read: with the reader that goes on, with the number of a whole line, or malformed
abbrev pub told : {A : Type 0} → A → (Reader → A) → (ℕ → A) → Read → A
told bad more whole (More r) = more r
told bad more whole (Whole v) = whole v
told bad more whole Malformed = bad

-- the input byte by byte, from a reader to the line's end
abbrev pub reads : {A : Type 0} → A → List ℕ → ℕ → Reader → List ℕ → (ℕ → List ℕ → A) → A
reads bad name most r [] go = bad
reads bad name most r (b ∷ input) go = told bad (λ r. reads bad name most r input go) (λ v. go v input) (fed name most r b)
