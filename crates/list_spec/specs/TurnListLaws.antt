-- Request A.10, the moves of a list, and the turn of all boards: from the points of the first series to those of document 01. proofs/TurnListLaws.antt has
-- `turn-list-laws`.
-- Assumes nothing.
use Rattle.std.specs.Prelude.{◌≡◌, true, ◌≢◌, List, [], ◌∷◌, ◌++◌, ℕ, ◌-◌, ◌*◌, ◌≤◌, ◌<◌, length}
use Rattle.lists.specs.Tests.{below, different}
use Rattle.lists.specs.Lists.{Bytes, tabulate}
use Rattle.sizes.specs.declared.Sizes.{Sizes}
use Rattle.sizes.specs.Sizing.{legal, α, B}
use Rattle.mbcr.specs.Share.{standard, share}
use Rattle.mbcr.specs.PointLaws.{first_series}
use Rattle.store_spec.specs.Record.{Record, held}
use Rattle.beside_spec.specs.Running.{Running}
use Rattle.beside_spec.specs.Both.{set_up_both}
use Rattle.ledger_spec.specs.Demand3.{begun, events}
use Rattle.beside_spec.specs.Acting.{Call, write, move}
use Rattle.ledger_spec.specs.Ledger.{Event, call, power_fails, Book, open_book, enter, book_next, book_final, Step, Allowed, final}
use Rattle.ledger_spec.specs.LedgerLaws.{Accepted}
use Rattle.beside_spec.specs.HandedLaws.{new_point, set_points}
use Rattle.ledger_spec.specs.Premises.{unaltered}

-- the moves of a list that the book accepts, in order: board and new point
abbrev pub moves_in : Book → List Event → List (ℕ × ℕ)
moves_in b [] = []
moves_in b (call c ∷ es) = new_point c (enter b c).reply.answer ++ moves_in (enter b c).book es
moves_in b (power_fails p ∷ es) = moves_in (book_next b (power_fails p)) es

pub record TurnListLaws : Type 0 where
  -- the moves of a list: of an accepted move its board and its new point, once, and of all else that happens nothing
  pub moves-none : (b : Book) → moves_in b [] ≡ []
  pub moves-one : (b : Book) (board point : ℕ) (helpers partners : List ℕ) (es : List Event) → Accepted b (move board point helpers partners)
      → moves_in b (call (move board point helpers partners) ∷ es) ≡ (board, point) ∷ moves_in (enter b (move board point helpers partners)).book es
  pub moves-refused : (b : Book) (c : Call) (es : List Event) → (Accepted b c → ⊥) → moves_in b (call c ∷ es) ≡ moves_in b es
  pub moves-other : (b : Book) (c : Call) (es : List Event) → ((board point : ℕ) (helpers partners : List ℕ) → c ≢ move board point helpers partners)
      → moves_in b (call c ∷ es) ≡ moves_in (enter b c).book es
  pub moves-fails : (b : Book) (p : Running) (es : List Event) → moves_in b (power_fails p ∷ es) ≡ moves_in (book_next b (power_fails p)) es
  -- the book's points are those of its opening but for the boards moved since
  pub points-are : (es : List Event) (b : Book) → (book_final b es).points ≡ set_points b.points (moves_in b es)
  -- "Moving boards 0 to n − 1 in turn carries i + 1 to i", whatever other calls and power failures stand between
  pub turn : (z : Sizes) (c m : ℕ) (es : List Event) → legal z ≡ true
      → moves_in (open_book z (first_series z) c m) es ≡ tabulate z.n (λ i. (i, i))
      → (book_final (open_book z (first_series z) c m) es).points ≡ standard z
  -- so it is with the record of the store, after any list that demand 3 allows
  pub turn-record : (old : Record) (p : Running) (z : Sizes) (c : ℕ) (area : List ℕ) (steps : List Step) → (set_up_both old p z (first_series z) c).answer.refusal ≡ 0
      → Allowed (begun old p z (first_series z) c area) (open_book z (first_series z) c (length area)) steps
      → moves_in (open_book z (first_series z) c (length area)) (events steps) ≡ tabulate z.n (λ i. (i, i))
      → (final (begun old p z (first_series z) c area) steps).kept.points ≡ standard z
  -- and there are such lists, at all legal sizes: a write of any file that fits, and n moves with whatever lists a repair of one board takes
  pub turn-met : (z : Sizes) (c : ℕ) (file : List ℕ) (helpers partners : ℕ → List ℕ) → legal z ≡ true → length file ≤ c * B z
      → ((i : ℕ) → i < z.n
      → (length (helpers i) ≡ z.d) × (length (partners i) ≡ z.r - 1)
      × (below z.n (i ∷ (helpers i ++ partners i)) ≡ true) × (different (i ∷ (helpers i ++ partners i)) ≡ true))
      → moves_in (open_book z (first_series z) c (z.n * (c * α z))) (call (write file) ∷ tabulate z.n (λ i. call (move i i (helpers i) (partners i))))
      ≡ tabulate z.n (λ i. (i, i))
  -- so it goes in the store, with nothing altered: from a set-up at the first series' points over any area, behind the last move the record has document 01's points,
  -- and every board holds its share of the file there
  pub turn-run : (old : Record) (p : Running) (z : Sizes) (c : ℕ) (area file : List ℕ) (helpers partners : ℕ → List ℕ)
      → (set_up_both old p z (first_series z) c).answer.refusal ≡ 0 → length area ≡ z.n * (c * α z) → length file ≤ c * B z → Bytes file
      → ((i : ℕ) → i < z.n
      → (length (helpers i) ≡ z.d) × (length (partners i) ≡ z.r - 1)
      × (below z.n (i ∷ (helpers i ++ partners i)) ≡ true) × (different (i ∷ (helpers i ++ partners i)) ≡ true))
      → let w = begun old p z (first_series z) c area in
      let es = call (write file) ∷ tabulate z.n (λ i. call (move i i (helpers i) (partners i))) in
      let e = final w (unaltered w (open_book z (first_series z) c (length area)) es) in
      (e.kept.points ≡ standard z) × ((i : ℕ) → i < z.n → held e.kept e.area i ≡ share z (standard z) file i)
