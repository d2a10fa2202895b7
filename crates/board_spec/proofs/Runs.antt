-- Interpolations at the points of different boards: no two points of one of them are equal. So a call that is not refused meets none.
-- Assumes nothing.
use mathlib.Core.Path.{◌≡◌, refl, sym, ap, subst}
use mathlib.Core.Bool.{true, false, not}
use mathlib.Core.Logic.{inl, inr, ⊎_elim}
use mathlib.Core.List.{List, [], ◌∷◌, ◌++◌, map}
use Prim.Native.Nat.{ℕ, ◌+◌, ◌<◌}
use native.Mathlib.Omega.{arith}
use Rattle.lists.specs.Tests.{alls, among, different, below}
use Rattle.lists.specs.Lists.{All, concat}
use Rattle.lists.proofs.Tests.{true-false, all-every, every-all, not-no, alls-hold}
use Rattle.lists.proofs.Alls.{append-all, all-imp}
use Rattle.lists.proofs.Boards.{among-cons, distinct-different}
use Rattle.sizes.specs.declared.Sizes.{Sizes}
use Rattle.std.specs.Prelude.{Ok}
use Rattle.sizes.specs.Refusals.{Line, applies_in, first, board_order}
use Rattle.sizes.specs.declared.Refusal.TheVariants.{Size, Node, Repeat}
use Rattle.sizes.specs.Sizing.{legal}
use Rattle.sizes.proofs.Legal.{Legal, legal-facts}
use Rattle.sizes.proofs.Orders.{clear-off}
use Rattle.mbcr.specs.Share.{DifferentPoints, points, neighbours, pointed}
use Rattle.mbcr.specs.Rebuild.{own_f, own_g, g_from, f_from}
use Rattle.mbcr.specs.Read.{through}
use Rattle.mbcr.proofs.PointLaws.{pointed-differ}
use Rattle.mbcr.proofs.Points.{Boards, boards-of, neighbours-boards, points-distinct, boards-left}
use Rattle.board_spec.specs.Calls.{file_lines, helper_lines, exchange_lines, finished_lines}
use Rattle.board_spec.specs.Runs.{equal_points, own_runs, exchange_runs, finish_runs, read_runs, In, Within, OwnAre, ExchangeAre, FinishAre, ReadAre, BoardRuns}

-- ---- any points

-- each interpolation has different points
abbrev pub Apart : List ℕ → List (List ℕ) → Type 0
Apart xs runs = All (λ boards. different (points xs boards) ≡ true) runs

module _ (xs : List ℕ) where
  pub apart-unequal : (runs : List (List ℕ)) → Apart xs runs → equal_points xs runs ≡ false
  apart-unequal runs h = ap not (all-every (λ boards. different (points xs boards)) runs h)

  pub unequal-apart : (runs : List (List ℕ)) → equal_points xs runs ≡ false → Apart xs runs
  unequal-apart runs h = every-all (λ boards. different (points xs boards)) runs (not-no _ h)

  -- two groups of interpolations
  pub unequal-append : (runs runs' : List (List ℕ)) → equal_points xs runs ≡ false → equal_points xs runs' ≡ false → equal_points xs (runs ++ runs') ≡ false
  unequal-append runs runs' h h' = apart-unequal (runs ++ runs') (append-all _ runs runs' (unequal-apart runs h) (unequal-apart runs' h'))

  -- a group for each element
  pub unequal-concat : {A : Type 0} (f : A → List (List ℕ)) (l : List A) → All (λ a. equal_points xs (f a) ≡ false) l → equal_points xs (concat (map f l)) ≡ false
  unequal-concat f [] h = refl
  unequal-concat f (a ∷ l) h = unequal-append (f a) (concat (map f l)) h.0 (unequal-concat f l h.1)

-- ---- points of different boards

module _ (z : Sizes) (xs : List ℕ) (pts : DifferentPoints z xs) where
  boards-apart : (boards : List ℕ) → Boards z boards → different (points xs boards) ≡ true
  boards-apart boards h = distinct-different (points xs boards) (points-distinct z xs pts boards h)

  pub one-run : (boards : List ℕ) → Boards z boards → equal_points xs (boards ∷ []) ≡ false
  one-run boards h = apart-unequal xs (boards ∷ []) (boards-apart boards h, tt)

  pub finish-runs : (i : ℕ) (helpers partners : List ℕ) → Boards z (helpers ++ partners ++ (i ∷ [])) → equal_points xs (finish_runs i helpers partners) ≡ false
  finish-runs i helpers partners h =
      let b = boards-left z helpers partners (boards-left z (helpers ++ partners) (i ∷ []) h) in
      apart-unequal xs (finish_runs i helpers partners) (boards-apart helpers b, (boards-apart _ h, tt))

module _ (z : Sizes) (xs : List ℕ) (legal : Legal z) (pts : DifferentPoints z xs) where
  pub own-runs : (j : ℕ) → j < z.n → equal_points xs (own_runs z j) ≡ false
  own-runs j h =
      let f = neighbours-boards z j (z.d + z.r) h legal.enough in
      let g = neighbours-boards z j z.d h (omega (arith, legal.enough)) in
      apart-unequal xs (own_runs z j) (boards-apart z xs pts _ f, (boards-apart z xs pts _ g, tt))

  pub read-runs : (boards : List ℕ) → Boards z boards → equal_points xs (read_runs z boards) ≡ false
  read-runs boards h =
      unequal-append xs (boards ∷ []) (concat (map (own_runs z) boards)) (one-run z xs pts boards h)
      (unequal-concat xs (own_runs z) boards (all-imp (λ j. j < z.n) (λ j. equal_points xs (own_runs z j) ≡ false) own-runs boards h.known))

-- ---- the calls

-- what SIZE, NODE and REPEAT leave
pub size-facts : (z : Sizes) (xs : List ℕ) → not (alls (legal z ∷ pointed z xs ∷ [])) ≡ false → (legal z ≡ true) × (pointed z xs ≡ true)
size-facts z xs h = let e = alls-hold (legal z ∷ pointed z xs ∷ []) (not-no _ h) in (e.0, e.1.0)

pub legal-of : (z : Sizes) (xs : List ℕ) → not (alls (legal z ∷ pointed z xs ∷ [])) ≡ false → Legal z
legal-of z xs h = legal-facts z (size-facts z xs h).0

pub points-of : (z : Sizes) (xs : List ℕ) → not (alls (legal z ∷ pointed z xs ∷ [])) ≡ false → DifferentPoints z xs
points-of z xs h = let e = size-facts z xs h in pointed-differ z xs e.0 e.1

pub named : (z : Sizes) (boards : List ℕ) → not (below z.n boards) ≡ false → not (different boards) ≡ false → Boards z boards
named z boards h k = boards-of z boards (not-no _ h) (not-no _ k)

-- the lines that these proofs ask
record Passed (lines : List Line) : Type 0 where
  size : applies_in lines Size ≡ false
  node : applies_in lines Node ≡ false
  repeat : applies_in lines Repeat ≡ false

passed : (lines : List Line) → first board_order lines ≡ Ok tt → Passed lines
passed lines h = let off = clear-off lines board_order h in record { size = off Size refl; node = off Node refl; repeat = off Repeat refl }

module _ (z : Sizes) (xs : List ℕ) (L : ℕ) where
  file-apart : (boards held output : List ℕ)
      → first board_order (file_lines z xs L boards held output) ≡ Ok tt → equal_points xs (read_runs z boards) ≡ false
  unfolding file_lines
  file-apart boards held output h =
      let p = passed (file_lines z xs L boards held output) h in
      read-runs z xs (legal-of z xs p.size) (points-of z xs p.size) boards (named z boards p.node p.repeat)

  helper-apart : (helper receiver : ℕ) (held output : List ℕ)
      → first board_order (helper_lines z xs L helper receiver held output) ≡ Ok tt → equal_points xs (own_runs z helper) ≡ false
  unfolding helper_lines
  helper-apart helper receiver held output h =
      let p = passed (helper_lines z xs L helper receiver held output) h in
      own-runs z xs (legal-of z xs p.size) (points-of z xs p.size) helper (named z (helper ∷ receiver ∷ []) p.node p.repeat).known.0

  exchange-apart : (board : ℕ) (helpers packets : List ℕ) (receiver : ℕ) (output : List ℕ)
      → first board_order (exchange_lines z xs L board helpers packets receiver output) ≡ Ok tt → equal_points xs (exchange_runs helpers) ≡ false
  unfolding exchange_lines
  exchange-apart board helpers packets receiver output h =
      let p = passed (exchange_lines z xs L board helpers packets receiver output) h in
      let b = named z (board ∷ receiver ∷ helpers) p.node p.repeat in
      one-run z xs (points-of z xs p.size) helpers (record { known = b.known.1.1; once = b.once.1.1 })

  finished-apart : (board : ℕ) (helpers packets partners exchanges output : List ℕ)
      → first board_order (finished_lines z xs L board helpers packets partners exchanges output) ≡ Ok tt
      → equal_points xs (finish_runs board helpers partners) ≡ false
  unfolding finished_lines
  finished-apart board helpers packets partners exchanges output h =
      let p = passed (finished_lines z xs L board helpers packets partners exchanges output) h in
      finish-runs z xs (points-of z xs p.size) board helpers partners (named z (helpers ++ partners ++ (board ∷ [])) p.node p.repeat)

-- ---- the interpolations of the definitions

-- of one group, of two
pub in_left : (run : List ℕ) (some others : List (List ℕ)) → In run some → In run (some ++ others)
in_left run [] others h = absurd h
in_left run (r ∷ some) others h = ⊎_elim (λ e. inl e) (λ k. inr (in_left run some others k)) h

pub in_right : (run : List ℕ) (others some : List (List ℕ)) → In run some → In run (others ++ some)
in_right run [] some h = h
in_right run (r ∷ others) some h = inr (in_right run others some h)

-- a group of one element, of all elements
pub in-groups : (run : List ℕ) (f : ℕ → List (List ℕ)) (l : List ℕ) (j : ℕ) → among l j ≡ true → In run (f j) → In run (concat (map f l))
in-groups run f [] j e h = absurd (true-false e refl)
in-groups run f (y ∷ l) j e h =
    ⊎_elim (λ q. in_left run (f y) (concat (map f l)) (subst (λ (x : ℕ). In run (f x)) (sym q) h))
    (λ k. in_right run (f y) (concat (map f l)) (in-groups run f l j k h)) (among-cons y j l e)

-- f and g of a board
pub own-within : (z : Sizes) (j : ℕ) (runs : List (List ℕ)) → ((run : List ℕ) → In run (own_runs z j) → In run runs) → Within (own_runs z j) runs
own-within z j runs h = (h (neighbours z j (z.d + z.r)) (inl refl), (h (neighbours z j z.d) (inr (inl refl)), tt))

own-are : (z : Sizes) (xs : List ℕ) (j : ℕ) → OwnAre z xs j
unfolding own_f own_g
own-are z xs j = record { f = neighbours z j (z.d + z.r); g = neighbours z j z.d; runs = refl; f-is = λ w. refl; g-is = λ w. refl }

exchange-are : (z : Sizes) (xs helpers : List ℕ) → ExchangeAre z xs helpers
unfolding g_from
exchange-are z xs helpers = record { g = helpers; runs = refl; g-is = λ firsts. refl }

finish-are : (z : Sizes) (xs : List ℕ) (i : ℕ) (helpers partners : List ℕ) → FinishAre z xs i helpers partners
unfolding g_from f_from
finish-are z xs i helpers partners = record {
  g = helpers;
  f = helpers ++ partners ++ (i ∷ []);
  runs = refl;
  g-is = λ firsts. refl;
  f-is = λ seconds sent own. refl;
}

read-are : (z : Sizes) (xs boards : List ℕ) → ReadAre z xs boards
unfolding through
read-are z xs boards = record {
  all = boards;
  all_in = inl refl;
  through-is = λ v. refl;
  own_in = λ j h. own-within z j (read_runs z boards) (λ run k. inr (in-groups run (own_runs z) boards j h k));
}

pub board-runs : BoardRuns
board-runs = record {
  equal_is = λ xs runs. (unequal-apart xs runs, apart-unequal xs runs);
  own-are = own-are;
  exchange-are = exchange-are;
  finish-are = finish-are;
  read-are = read-are;
  file-apart = file-apart;
  helper-apart = helper-apart;
  exchange-apart = exchange-apart;
  finished-apart = finished-apart;
}
