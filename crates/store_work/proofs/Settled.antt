-- From what the checks answered to what a call of the store hands on, with both records: the first line that holds, or the work.
-- Assumes nothing.
use Prim.Native.Nat.{ℕ, ◌*◌, ◌<◌}
use mathlib.Core.Path.{◌≡◌, refl, sym, ap, ap₂, ◌∙◌}
use mathlib.Core.Bool.{Bool, true}
use mathlib.Core.List.{List, [], ◌∷◌}
use native.Mathlib.Omega.{arith}
use lib.Dec.{ltb}
use lib.ListN.{length, drop}
use Rattle.lists.specs.Lists.{tabulate, put}
use Rattle.sizes.specs.declared.Sizes.{Sizes}
use Rattle.sizes.specs.declared.Refusal.{Refusal}
use Rattle.std.specs.Prelude.{Ok, Err}
use Rattle.sizes.specs.Sizing.{legal}
use Rattle.sizes.specs.Refusals.{first, store_order, Check}
use Rattle.sizes.proofs.Legal.{legal-facts}
use Rattle.mbcr.specs.Share.{share}
use Rattle.store_spec.specs.Record.{Record, new_record, written_record, part_len, put_shares}
use Rattle.store_spec.specs.Calls.{accepted, settle, record_line, write_lines, write_done, lose_lines, lose_done}
use Rattle.beside_spec.specs.Running.{Running, idle, sound_beside}
use Rattle.beside_spec.specs.Both.{Outcome, beside, set_up_both, write_lines_both, write_both, lost_beside, lose_lines_both, lose_both}
use Rattle.store_spec.proofs.Records.{sound-facts, lose-facts}
use Rattle.beside_spec.proofs.Beside.{both_facts, alone, alone-busy}
use Rattle.store_lines.specs.Steps.{record_of}
use Rattle.sizes.specs.declared.Refusal.TheVariants.{Size}
use Rattle.sizes.proofs.Orders.{clear-off}
use Rattle.store_work.specs.Handing.{turned_down}

-- a call whose check answers r: where that is a refusal, and where the check passes
pub refused-by : {c r : Check} {x : Refusal} (out : Refusal → Outcome) (done : Outcome) → r ≡ c → r ≡ Err x → out x ≡ settle c out done
refused-by out done e h = sym (ap (λ (k : Check). settle k out done) (sym e ∙ h))

pub done-by : {c : Check} (out : Refusal → Outcome) (done : Outcome) → c ≡ Ok tt → done ≡ settle c out done
done-by out done e = sym (ap (λ (k : Check). settle k out done) e)

-- ---- set up

module _ (s : Record) (p : Running) (z : Sizes) (xs : List ℕ) (c : ℕ) where
  abbrev pub begun : Check
  begun = first store_order (record_line (new_record z xs c) ∷ [])

  -- what a set-up hands on with these records
  abbrev pub new : Record → Running → Outcome
  new s p = beside p (accepted 0 s [] [])

  pub set-up-refuses : {r : Check} {x : Refusal} → r ≡ begun → r ≡ Err x → turned_down s p [] [] [] x ≡ set_up_both s p z xs c
  unfolding set_up_both
  set-up-refuses e h = refused-by (turned_down s p [] [] []) (new (new_record z xs c) idle) e h

  pub set-up-works : begun ≡ Ok tt → new (new_record z xs c) idle ≡ set_up_both s p z xs c
  unfolding set_up_both
  set-up-works e = done-by (turned_down s p [] [] []) (new (new_record z xs c) idle) e

-- ---- lose a board

module _ (s : Record) (p : Running) (board : ℕ) where
  abbrev pub lost : Check
  lost = first store_order (lose_lines_both s p board)

  abbrev without : List ℕ → Running → Outcome
  without area q = beside q (lose_done s area board)

  pub lose-refuses : {r : Check} {x : Refusal} → r ≡ lost → r ≡ Err x → (area : List ℕ) → turned_down s p area [] [] x ≡ lose_both s p area board
  unfolding lose_both
  lose-refuses e h area = refused-by (turned_down s p area [] []) (without area (lost_beside s p board)) e h

  pub lose-works : (q : Running) → lost ≡ Ok tt → q ≡ lost_beside s p board → (area : List ℕ) → without area q ≡ lose_both s p area board
  unfolding lose_both
  lose-works q h e area = ap (without area) e ∙ done-by (turned_down s p area [] []) (without area (lost_beside s p board)) h

  lose-alone : lost ≡ Ok tt → first store_order (lose_lines s board) ≡ Ok tt
  unfolding lose_lines_both lose_lines
  lose-alone h = alone s p (drop 1 (lose_lines s board)) h

  -- what the loss of a board from a started repair asks
  pub lose-beside : lost ≡ Ok tt → sound_beside s p ≡ true
  unfolding lose_lines_both lose_lines
  lose-beside h = (both_facts s p (clear-off (lose_lines_both s p board) store_order h Size refl)).1

  -- the board has a mark
  pub lose-marked : lost ≡ Ok tt → board < 32
  lose-marked h = let f = lose-facts s board (lose-alone h) in omega (arith, f.known, (legal-facts _ (sound-facts s f.is-sound).is-legal).few)

  pub lose-legal : lost ≡ Ok tt → legal s.sizes ≡ true
  lose-legal h = (sound-facts s (lose-facts s board (lose-alone h)).is-sound).is-legal

-- ---- write

-- only the length of a board's part decides where a share goes
puts-same : (s t : Record) (f : ℕ → List ℕ) (boards area : List ℕ) → part_len s ≡ part_len t → put_shares s f boards area ≡ put_shares t f boards area
puts-same s t f [] area e = refl
puts-same s t f (i ∷ boards) area e =
    puts-same s t f boards (put area (i * part_len s) (f i)) e ∙ ap (λ (m : ℕ). put_shares t f boards (put area (i * m) (f i))) e

module _ (s : Record) (p : Running) (area file : List ℕ) where
  abbrev pub checked : Check
  checked = first store_order (write_lines_both s p (length area) file)

  pub write-refuses : {r : Check} {x : Refusal} → r ≡ checked → r ≡ Err x → turned_down s p area [] [] x ≡ write_both s p area file
  unfolding write_both
  write-refuses e h = refused-by (turned_down s p area [] []) (beside p (write_done s area file)) e h

  -- the call alone passes too
  pub write_alone : checked ≡ Ok tt → first store_order (write_lines s (length area) file) ≡ Ok tt
  unfolding write_lines_both write_lines
  write_alone h = (alone-busy s p p.running (drop 1 (write_lines s (length area) file)) refl h).0

  -- what a write hands on with these marks and this area
  abbrev pub made : List Bool → List ℕ → Outcome
  made marks after = beside p (accepted 0 (record_of s.sizes s.points s.capacity true (length file) marks) after [])

  -- the area with the shares in it
  abbrev pub shared : List ℕ
  shared = put_shares (record_of s.sizes [] s.capacity true 0 []) (share s.sizes s.points file) (tabulate s.sizes.n (λ i. i)) area

  pub write-works : (marks : List Bool) (after : List ℕ) → checked ≡ Ok tt → marks ≡ tabulate 32 (λ i. ltb i s.sizes.n) → after ≡ shared
      → made marks after ≡ write_both s p area file
  unfolding write_both
  write-works marks after h em ea =
      let w = written_record s (length file) in
      let same = puts-same (record_of s.sizes [] s.capacity true 0 []) w (share s.sizes s.points file) (tabulate s.sizes.n (λ i. i)) area refl in
      ap₂ made em (ea ∙ same) ∙ done-by (turned_down s p area [] []) (beside p (write_done s area file)) h
