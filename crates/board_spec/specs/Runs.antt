-- Request A.5: no call answers 11 POINTS, "two equal points in one interpolation", since the checks before it leave no input that meets it. For each
-- call that interpolates: the boards at whose points it does (figures list some), and that these points differ where no check refuses.
-- proofs/Runs.antt has `board-runs : BoardRuns`.
-- Assumes nothing.
use Rattle.std.specs.Prelude.{◌≡◌, Bool, true, false, not, ◌↔◌, ◌⊎◌, List, [], ◌∷◌, ◌++◌, map, ℕ, ◌+◌, take, drop, Ok}
use Rattle.lists.specs.Tests.{every, among, different}
use Rattle.lists.specs.Lists.{All, concat, tabulate}
use Rattle.sizes.specs.declared.Sizes.{Sizes}
use Rattle.sizes.specs.Refusals.{first, board_order}
use Rattle.polynomial.specs.Polynomial.{eval, interpolate}
use Rattle.mbcr.specs.Share.{point, points, neighbours}
use Rattle.mbcr.specs.Rebuild.{own_f, own_g, g_from, f_from}
use Rattle.mbcr.specs.Read.{through}
use Rattle.board_spec.specs.Calls.{file_lines, helper_lines, exchange_lines, finished_lines}

-- "two equal points in one interpolation", of interpolations at the points of these boards
abbrev pub equal_points : List ℕ → List (List ℕ) → Bool
equal_points xs runs = not (every (λ boards. different (points xs boards)) runs)

-- the boards at whose points f_j and g_j are found from what board j keeps: a helper packet
abbrev pub own_runs : Sizes → ℕ → List (List ℕ)
own_runs z j = neighbours z j (z.d + z.r) ∷ neighbours z j z.d ∷ []

-- those at whose points g_i is found from helper packets: an exchange packet
abbrev pub exchange_runs : List ℕ → List (List ℕ)
exchange_runs helpers = helpers ∷ []

-- those at whose points g_i and f_i are found from packets: a finished share
abbrev pub finish_runs : ℕ → List ℕ → List ℕ → List (List ℕ)
finish_runs i helpers partners = helpers ∷ (helpers ++ partners ++ (i ∷ [])) ∷ []

-- those at whose points a file is found from shares
abbrev pub read_runs : Sizes → List ℕ → List (List ℕ)
read_runs z boards = boards ∷ concat (map (own_runs z) boards)

-- the boards of one interpolation stand among those of others
abbrev pub In : List ℕ → List (List ℕ) → Type 0
In run [] = ⊥
In run (r ∷ runs) = (r ≡ run) ⊎ In run runs

-- all of these do
abbrev pub Within : List (List ℕ) → List (List ℕ) → Type 0
Within some runs = All (λ run. In run runs) some

-- these are the interpolations of the definitions: f_j and g_j from what board j keeps
pub record OwnAre (z : Sizes) (xs : List ℕ) (j : ℕ) : Type 0 where
  pub f : List ℕ
  pub g : List ℕ
  pub runs : own_runs z j ≡ f ∷ g ∷ []
  pub f-is : (w : List ℕ) → own_f z xs j w ≡ interpolate (points xs f) (take (z.d + z.r) w)
  pub g-is : (w : List ℕ) → own_g z xs j w ≡ interpolate (points xs g) (take 1 w ++ drop (z.d + z.r) w)

-- g_i from helper packets
pub record ExchangeAre (z : Sizes) (xs helpers : List ℕ) : Type 0 where
  pub g : List ℕ
  pub runs : exchange_runs helpers ≡ g ∷ []
  pub g-is : (firsts : List ℕ) → g_from z xs helpers firsts ≡ interpolate (points xs g) firsts

-- g_i and f_i from packets
pub record FinishAre (z : Sizes) (xs : List ℕ) (i : ℕ) (helpers partners : List ℕ) : Type 0 where
  pub g : List ℕ
  pub f : List ℕ
  pub runs : finish_runs i helpers partners ≡ g ∷ f ∷ []
  pub g-is : (firsts : List ℕ) → g_from z xs helpers firsts ≡ interpolate (points xs g) firsts
  pub f-is : (seconds sent own : List ℕ) → f_from z xs i helpers seconds partners sent own ≡ interpolate (points xs f) (seconds ++ sent ++ (eval own (point xs i) ∷ []))

-- each column and each row of a stripe's coefficients from the k boards; f and g of each of them
pub record ReadAre (z : Sizes) (xs boards : List ℕ) : Type 0 where
  pub all : List ℕ
  pub all_in : In all (read_runs z boards)
  pub through-is : (v : ℕ → ℕ) → through z xs boards v ≡ interpolate (points xs all) (tabulate z.k v)
  pub own_in : (j : ℕ) → among boards j ≡ true → Within (own_runs z j) (read_runs z boards)

pub record BoardRuns : Type 0 where
  -- no interpolation has two equal points
  pub equal_is : (xs : List ℕ) (runs : List (List ℕ)) → (equal_points xs runs ≡ false) ↔ All (λ boards. different (points xs boards) ≡ true) runs
  pub own-are : (z : Sizes) (xs : List ℕ) (j : ℕ) → OwnAre z xs j
  pub exchange-are : (z : Sizes) (xs helpers : List ℕ) → ExchangeAre z xs helpers
  pub finish-are : (z : Sizes) (xs : List ℕ) (i : ℕ) (helpers partners : List ℕ) → FinishAre z xs i helpers partners
  pub read-are : (z : Sizes) (xs boards : List ℕ) → ReadAre z xs boards
  pub file-apart : (z : Sizes) (xs : List ℕ) (L : ℕ) (boards held output : List ℕ)
      → first board_order (file_lines z xs L boards held output) ≡ Ok tt → equal_points xs (read_runs z boards) ≡ false
  pub helper-apart : (z : Sizes) (xs : List ℕ) (L helper receiver : ℕ) (held output : List ℕ)
      → first board_order (helper_lines z xs L helper receiver held output) ≡ Ok tt → equal_points xs (own_runs z helper) ≡ false
  pub exchange-apart : (z : Sizes) (xs : List ℕ) (L board : ℕ) (helpers packets : List ℕ) (receiver : ℕ) (output : List ℕ)
      → first board_order (exchange_lines z xs L board helpers packets receiver output) ≡ Ok tt → equal_points xs (exchange_runs helpers) ≡ false
  pub finished-apart : (z : Sizes) (xs : List ℕ) (L board : ℕ) (helpers packets partners exchanges output : List ℕ)
      → first board_order (finished_lines z xs L board helpers packets partners exchanges output) ≡ Ok tt
      → equal_points xs (finish_runs board helpers partners) ≡ false
