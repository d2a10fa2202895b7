-- Interpolations of a repair, of a read, of a careful one and of a move: where no check refuses, no two points of one of them are equal.
-- Assumes nothing.
use Prim.Native.Nat.{ℕ, zero, suc, ◌-◌, ◌*◌, ◌<◌}
use native.Mathlib.Omega.{arith}
use mathlib.Core.Path.{◌≡◌, refl, sym, ◌∙◌, subst}
use mathlib.Core.Bool.{true, false, not}
use mathlib.Core.Logic.{◌≢◌, inl, inr}
use mathlib.Core.List.{List, [], ◌∷◌, ◌++◌, map, append_assoc}
use lib.ListN.{length, get_or, take, drop, set, replicate, length-replicate}
use Rattle.lists.specs.Lists.{All, tabulate, concat, piece, without}
use Rattle.lists.specs.Tests.{different, among}
use Rattle.lists.proofs.Alls.{all-imp, append-all, take-alls, drop-alls, all_left, all_right}
use Rattle.lists.proofs.Boards.{below_all, all-below, all_among, get_d-among, all_without, among-without}
use Rattle.lists.proofs.Pieces.{tabulate-all}
use Rattle.lists.proofs.Tests.{every-all, all-every}
use Rattle.sizes.specs.Refusals.{first, store_order}
use Rattle.std.specs.Prelude.{Ok}
use Rattle.sizes.specs.declared.Sizes.{Sizes}
use Rattle.sizes.proofs.Legal.{legal-facts}
use Rattle.mbcr.proofs.Points.{Boards, boards-of}
use Rattle.board_spec.specs.Runs.{equal_points, own_runs, finish_runs, read_runs, In, Within}
use Rattle.board_spec.proofs.Runs.{unequal-append, unequal-concat, own-runs, finish-runs, read-runs, in_left, in_right, in-groups, own-within}
use Rattle.store_spec.specs.Calls.{repair_lines, read_lines}
use Rattle.store_spec.specs.Edit.{edit_lines}
use Rattle.store_spec.specs.Careful.{leaving, careful_lines}
use Rattle.store_spec.specs.Packets.{stand_ins_each}
use Rattle.store_spec.specs.Record.{Record}
use Rattle.store_spec.specs.Runs.{runs_of, repair_runs, careful_runs, RepairAre, StoreRuns, afresh_runs}
use Rattle.store_spec.specs.Move.{moved_record, afresh_area, move_lines}
use Rattle.store_spec.proofs.Careful.{first-named}
use Rattle.store_spec.proofs.Named.{named-boards}
use Rattle.store_spec.proofs.Packets.{run-different}
use Rattle.store_spec.proofs.Records.{Sound, Repairs, sound-facts, sound-points, repair-facts, read-facts, edit-facts, careful-facts, Moves, move-facts}
use Rattle.store_spec.proofs.Marks.{among_first, first_below}
use Rattle.store_spec.proofs.Move.{lost, repairs}
use borrow.Author.Tests.{ne_eqb, lt-ltb}

unequal-all : (xs : List ℕ) (rs : List (List (List ℕ))) → All (λ r. equal_points xs r ≡ false) rs → equal_points xs (concat rs) ≡ false
unequal-all xs [] h = refl
unequal-all xs (r ∷ rs) h = unequal-append xs r (concat rs) h.0 (unequal-all xs rs h.1)

module _ (s : Record) (m : ℕ) (fresh helpers stand_ins : List ℕ) (f : Repairs s m fresh helpers stand_ins) where
  known : Sound s
  known = sound-facts s f.is-sound

  low : All (λ x. x < s.sizes.n) (fresh ++ (helpers ++ stand_ins))
  low = below_all s.sizes.n (fresh ++ (helpers ++ stand_ins)) f.named-below

  -- what holds of all helpers and stand-ins holds of those of one fresh board
  named : (Q : ℕ → Type 0) → All Q (helpers ++ stand_ins) → (a : ℕ)
      → All Q (piece s.sizes.d a helpers ++ piece (stand_ins_each s fresh) a stand_ins)
  unfolding piece
  named Q h a =
      let d = s.sizes.d in
      let e = stand_ins_each s fresh in
      append-all Q (take d (drop (a * d) helpers)) (take e (drop (a * e) stand_ins))
      (take-alls Q d (drop (a * d) helpers) (drop-alls Q (a * d) helpers (all_left Q helpers stand_ins h)))
      (take-alls Q e (drop (a * e) stand_ins) (drop-alls Q (a * e) stand_ins (all_right Q helpers stand_ins h)))

  named-once : (a : ℕ) → a < length fresh → different (piece s.sizes.d a helpers ++ piece (stand_ins_each s fresh) a stand_ins) ≡ true
  unfolding piece
  named-once a h = run-different s.sizes.d (stand_ins_each s fresh) fresh helpers stand_ins f.named-different a h

  -- of one fresh board
  fresh-runs : (a : ℕ) → a < length fresh
      → equal_points s.points (runs_of s fresh (get_or fresh a 0) (piece s.sizes.d a helpers) (piece (stand_ins_each s fresh) a stand_ins)) ≡ false
  fresh-runs a h =
      let i : ℕ = get_or fresh a 0 in
      let hs : List ℕ = piece s.sizes.d a helpers in
      let ss : List ℕ = piece (stand_ins_each s fresh) a stand_ins in
      let below-n = named (λ x. x < s.sizes.n) (all_right (λ x. x < s.sizes.n) fresh (helpers ++ stand_ins) low) a in
      let none = all-every (λ x. not (among fresh x)) (hs ++ ss)
      (named (λ x. not (among fresh x) ≡ true) (every-all (λ x. not (among fresh x)) (helpers ++ stand_ins) f.none-fresh) a) in
      let b : Boards s.sizes (hs ++ ss ++ without i fresh ++ (i ∷ [])) =
      named-boards s.sizes fresh (all_left (λ x. x < s.sizes.n) fresh (helpers ++ stand_ins) low) f.fresh-different i (get_d-among fresh a h)
      (hs ++ ss) below-n (named-once a h) none in
      unequal-append s.points (concat (map (own_runs s.sizes) (hs ++ ss))) (finish_runs i hs (ss ++ without i fresh))
      (unequal-concat s.points (own_runs s.sizes) (hs ++ ss)
      (all-imp (λ j. j < s.sizes.n) (λ j. equal_points s.points (own_runs s.sizes j) ≡ false)
      (own-runs s.sizes s.points (legal-facts s.sizes known.is-legal) (sound-points s known)) (hs ++ ss) below-n))
      (finish-runs s.sizes s.points (sound-points s known) i hs (ss ++ without i fresh)
      (subst (λ (l : List ℕ). Boards s.sizes (l ++ (i ∷ []))) (append_assoc hs ss (without i fresh)) b))

  all_runs : equal_points s.points (repair_runs s fresh helpers stand_ins) ≡ false
  all_runs =
      let run : ℕ → List (List ℕ) = λ a. runs_of s fresh (get_or fresh a 0) (piece s.sizes.d a helpers) (piece (stand_ins_each s fresh) a stand_ins) in
      unequal-all s.points (tabulate (length fresh) run) (tabulate-all (λ r. equal_points s.points r ≡ false) (length fresh) run fresh-runs)

repair-apart : (s : Record) (m : ℕ) (fresh helpers stand_ins : List ℕ)
    → first store_order (repair_lines s m fresh helpers stand_ins) ≡ Ok tt → equal_points s.points (repair_runs s fresh helpers stand_ins) ≡ false
repair-apart s m fresh helpers stand_ins h = all_runs s m fresh helpers stand_ins (repair-facts s m fresh helpers stand_ins h)

-- of k boards that a call decodes from
decode-apart : (s : Record) (boards : List ℕ) → Sound s → Boards s.sizes boards → equal_points s.points (read_runs s.sizes boards) ≡ false
decode-apart s boards g b = read-runs s.sizes s.points (legal-facts s.sizes g.is-legal) (sound-points s g) boards b

read-apart : (s : Record) (area boards output : List ℕ)
    → first store_order (read_lines s area boards output) ≡ Ok tt → equal_points s.points (read_runs s.sizes boards) ≡ false
read-apart s area boards output h =
    let f = (read-facts s area boards output h).0 in
    decode-apart s boards (sound-facts s f.is-sound) (boards-of s.sizes boards f.named-below f.all-different)

edit-apart : (s : Record) (area : List ℕ) (offset : ℕ) (bytes boards : List ℕ)
    → first store_order (edit_lines s area offset bytes boards) ≡ Ok tt → equal_points s.points (read_runs s.sizes boards) ≡ false
edit-apart s area offset bytes boards h =
    let f = (edit-facts s area offset bytes boards h).0 in
    decode-apart s boards (sound-facts s f.is-sound) (boards-of s.sizes boards f.named-below f.all-different)

-- of any of the boards of a careful read, and so of its tries
careful-any-apart : (s : Record) (area boards output some : List ℕ)
    → first store_order (careful_lines s area boards output) ≡ Ok tt → different some ≡ true → All (λ i. among boards i ≡ true) some
    → equal_points s.points (read_runs s.sizes some) ≡ false
careful-any-apart s area boards output some h d a =
    let f = careful-facts s area boards output h in
    let low : All (λ i. i < s.sizes.n) boards = below_all s.sizes.n boards f.named-below in
    decode-apart s some (sound-facts s f.is-sound)
    (boards-of s.sizes some (all-below s.sizes.n some (all-imp (λ i. among boards i ≡ true) (λ i. i < s.sizes.n) (λ i e. all_among (λ x. x < s.sizes.n) boards i low e) some a)) d)

careful-apart : (s : Record) (area boards output : List ℕ)
    → first store_order (careful_lines s area boards output) ≡ Ok tt → equal_points s.points (careful_runs s.sizes boards) ≡ false
careful-apart s area boards output h =
    let f = careful-facts s area boards output h in
    let run : ℕ → List (List ℕ) = λ t. read_runs s.sizes (take s.sizes.k (leaving t boards)) in
    unequal-all s.points (tabulate (length boards) run)
    (tabulate-all (λ r. equal_points s.points r ≡ false) (length boards) run (λ t l.
    let n = first-named s boards (f.count, f.named-below, f.all-different) t l in
    decode-apart s (take s.sizes.k (leaving t boards)) (sound-facts s f.is-sound) (boards-of s.sizes (take s.sizes.k (leaving t boards)) n.1 n.2)))

-- of a move: of the other boards at the points before it, and of the repair of the one board at those after it
others_apart : (s : Record) (board : ℕ) → Sound s → equal_points s.points (afresh_runs s.sizes board) ≡ false
others_apart s board g =
    let others : List ℕ = without board (tabulate s.sizes.n (λ i. i)) in
    unequal-concat s.points (own_runs s.sizes) others
    (all-imp (λ j. j < s.sizes.n) (λ j. equal_points s.points (own_runs s.sizes j) ≡ false)
    (own-runs s.sizes s.points (legal-facts s.sizes g.is-legal) (sound-points s g)) others
    (all_without (λ j. j < s.sizes.n) board (tabulate s.sizes.n (λ i. i)) (first_below s.sizes.n s.sizes.n (omega arith))))

move-apart : (s : Record) (m board point : ℕ) (helpers partners : List ℕ) → point < 256
    → first store_order (move_lines s m board point helpers partners) ≡ Ok tt
    → (equal_points s.points (afresh_runs s.sizes board) ≡ false)
    × (equal_points (set s.points board point) (repair_runs (moved_record s board point) (board ∷ []) helpers partners) ≡ false)
move-apart s m board point helpers partners byte h =
    let area : List ℕ = replicate m 0 in
    let f : Moves s (length area) board point helpers partners =
    subst (λ (x : ℕ). Moves s x board point helpers partners) (sym (length-replicate m 0)) (move-facts s m board point helpers partners h) in (
      others_apart s board (sound-facts s f.is-sound),
      all_runs (lost s area board point helpers partners f byte) (length (afresh_area s area board point)) (board ∷ []) helpers partners
          (repairs s area board point helpers partners f byte),
    )

-- ---- the interpolations of the definitions

-- a group of one place, of all places
in-places : (run : List ℕ) (m : ℕ) (f : ℕ → List (List ℕ)) (a : ℕ) → a < m → In run (f a) → In run (concat (tabulate m f))
in-places run zero f a h k = absurd (omega arith)
in-places run (suc m) f zero h k = in_left run (f 0) (concat (tabulate m (λ i. f (suc i)))) k
in-places run (suc m) f (suc a) h k =
    in_right run (f 0) (concat (tabulate m (λ i. f (suc i)))) (in-places run m (λ i. f (suc i)) a (omega arith) k)

repair-are : (s : Record) (fresh helpers stand_ins : List ℕ) (a : ℕ) → a < length fresh → RepairAre s fresh helpers stand_ins a
repair-are s fresh helpers stand_ins a h = record {
  own_in = λ j e. own-within z j (repair_runs s fresh helpers stand_ins) (λ run k.
      in-places run (length fresh) runs a h (in_left run (concat (map (own_runs z) (hs ++ ss))) (finish_runs i hs (ss ++ without i fresh))
      (in-groups run (own_runs z) (hs ++ ss) j e k)));
  finish-in = (finishing hs (inl refl), (finishing (hs ++ (ss ++ without i fresh) ++ (i ∷ [])) (inr (inl refl)), tt));
}
  where
    z : Sizes
    z = s.sizes

    i : ℕ
    i = get_or fresh a 0

    hs : List ℕ
    hs = piece s.sizes.d a helpers

    ss : List ℕ
    ss = piece (s.sizes.r - length fresh) a stand_ins

    runs : ℕ → List (List ℕ)
    runs b = runs_of s fresh (get_or fresh b 0) (piece s.sizes.d b helpers) (piece (stand_ins_each s fresh) b stand_ins)

    finishing : (run : List ℕ) → In run (finish_runs i hs (ss ++ without i fresh)) → In run (repair_runs s fresh helpers stand_ins)
    finishing run k = in-places run (length fresh) runs a h (in_right run (concat (map (own_runs z) (hs ++ ss))) (finish_runs i hs (ss ++ without i fresh)) k)

careful-are : (z : Sizes) (boards : List ℕ) (t : ℕ) → t < length boards → Within (read_runs z (take z.k (leaving t boards))) (careful_runs z boards)
careful-are z boards t h =
    within-self (read_runs z (take z.k (leaving t boards))) (careful_runs z boards) (λ run k.
    in-places run (length boards) (λ u. read_runs z (take z.k (leaving u boards))) t h k)
  where
    within-self : (some runs : List (List ℕ)) → ((run : List ℕ) → In run some → In run runs) → Within some runs
    within-self [] runs f = tt
    within-self (r ∷ some) runs f = (f r (inl refl), within-self some runs (λ run k. f run (inr k)))

move-are : (z : Sizes) (board i : ℕ) → i < z.n → i ≢ board → Within (own_runs z i) (afresh_runs z board)
move-are z board i h e =
    own-within z i (afresh_runs z board) (λ run k.
    in-groups run (own_runs z) (without board (tabulate z.n (λ x. x))) i
    (among-without board (tabulate z.n (λ x. x)) i ∙ rw (ne_eqb board i (λ q. e (sym q))) (among_first z.n i ∙ lt-ltb i z.n h)) k)

pub store-runs : StoreRuns
store-runs = record {
  repair-are = repair-are;
  repair-apart = repair-apart;
  read-apart = read-apart;
  edit-apart = edit-apart;
  careful-are = careful-are;
  careful-apart = careful-apart;
  careful-any-apart = careful-any-apart;
  move-are = move-are;
  move-apart = move-apart;
}
