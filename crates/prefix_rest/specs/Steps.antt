-- The line of data, and the line of points with that of data behind it, by how many pairs stand in them.
-- Assumes nothing.
use Rattle.std.specs.Prelude.{true, List, [], ℕ}
use Rattle.point_lines.specs.Steps.{points_name}
use Rattle.text_spec.specs.Texts.{data_name}
use Rattle.prefix_spec.specs.Prefix.{name_on, pairs_on, may_point}

abbrev pub data_line : ℕ → List ℕ → ℕ
data_line count input = name_on data_name input (λ input. pairs_on (λ m xs. true) count [] input (λ rest. 0))

abbrev pub points_line : ℕ → ℕ → List ℕ → ℕ
points_line n count input = name_on points_name input (λ input. pairs_on (may_point n) n [] input (data_line count))
