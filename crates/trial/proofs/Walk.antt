-- The load turn by turn: the lines so far, then the text of the calls that are left, are the whole text.
-- Assumes nothing.
use mathlib.Core.Path.{◌≡◌, refl, sym, ap, ap₂, ◌∙◌}
use mathlib.Core.Bool.{Bool, true}
use mathlib.Core.Option.{Option, some, none}
use Rattle.std.specs.Prelude as rust
use mathlib.Core.List.{List, [], ◌++◌, append-nil, append_assoc}
use Prim.Native.Nat.{ℕ, suc, ◌+◌, ◌*◌, ◌-◌, ◌≤◌, ◌<◌}
use native.Mathlib.Omega.{arith}
use lib.ListN.{length, take, drop, replicate, length-append, length-drop}
use Rattle.lists.specs.Lists.{put}
use Rattle.sizes.specs.Sizing.{α}
use Rattle.mbcr.specs.Share.{standard}
use Rattle.board_spec.specs.Text.{decimal}
use Rattle.printer.specs.Printer.{refused_line}
use Rattle.text_lines.specs.Steps.{Wrote}
use Rattle.store_spec.specs.Record.{Record}
use Rattle.beside_spec.specs.Running.{Running, idle}
use Rattle.beside_spec.specs.Both.{set_up_both}
use Rattle.beside_spec.specs.Acting.{State}
use Rattle.store_spec.proofs.Records.{sound-facts}
use Rattle.beside_spec.proofs.Beside.{set-up-both}
use Rattle.trial_spec.specs.Trial.{Load, new_store, taken, loaded, drawn, left, trial_over, trial_of, trial_text}
use Rattle.trial_spec.proofs.Laws.{trial-laws}
use Rattle.trial_input.specs.declared.Load as load
use Rattle.trial_input.specs.Steps.{load_in, loaded_in}
use Rattle.trial_calls.proofs.Made.{take-zeros}
use Rattle.trial_turn.specs.Turn.{outcome_of, line_after}
use Rattle.trial_turn.specs.Walk.{text_from}
use Rattle.trial.specs.Printing.{Printing}

-- ---- turn by turn

-- lines of so many bytes, and what m calls more print from here on
pub record Sofar (l : Load) (text : List ℕ) (count m : ℕ) (w : State) (state : ℕ) : Type 0 where
  pub said : List ℕ
  pub whole : said ++ text_from l m w state ≡ text
  pub long : count ≡ length said

pub begin : (l : Load) (m : ℕ) (w : State) (state : ℕ) → Sofar l (text_from l m w state) 0 m w state
begin l m w state = record { said = []; whole = refl; long = refl }

-- a call prints its line, and then what is left prints
one-turn : (l : Load) (m : ℕ) (w : State) (state : ℕ)
    → text_from l (suc m) w state ≡ line_after l w state ++ text_from l m (left (outcome_of l w state)) (drawn l state).state
one-turn l m w state = refl

pub onward : (l : Load) (text : List ℕ) (count m : ℕ) (w : State) (state : ℕ) → 0 < m → Sofar l text count m w state
    → (more : ℕ) (v : State) (next : ℕ) → more ≡ length (line_after l w state) → v ≡ left (outcome_of l w state) → next ≡ (drawn l state).state
    → Sofar l text (count + more) (m - 1) v next
onward l text count m w state h s more v next em ev en =
    let line = line_after l w state in
    let e : m ≡ suc (m - 1) = omega (arith, h) in
    record {
      said = s.said ++ line;
      whole =
          append_assoc s.said line (text_from l (m - 1) v next)
          ∙ ap (λ (t : List ℕ). s.said ++ t)
          (ap₂ {C = List ℕ} (λ (v : State) (next : ℕ). line ++ text_from l (m - 1) v next) ev en
          ∙ sym (one-turn l (m - 1) w state)
          ∙ sym (ap (λ (m : ℕ). text_from l m w state) e))
          ∙ s.whole;
      long = omega (arith, length-append s.said line, s.long, em);
    }

pub finished : (l : Load) (text : List ℕ) (count m : ℕ) (w : State) (state : ℕ) (good : Bool) → (good ≡ true → m ≡ 0) → Sofar l text count m w state
    → Printing text (record { count = count; left = m; good = good })
finished l text count m w state good h s = record {
  said = s.said;
  unsaid = text_from l m w state;
  whole = s.whole;
  long = s.long;
  all = λ e. ap (λ (m : ℕ). text_from l m w state) e;
  made = h;
}

-- ---- a line

put-long : (l a : List ℕ) → length (put l 0 a) ≡ length a + (length l - length a)
unfolding put
put-long l a = let e : 0 + length a ≡ length a = omega arith in rw e (length-append a (drop (length a) l) ∙ ap (λ (m : ℕ). length a + m) (length-drop (length a) l))

-- what was written into a slice, at its beginning, is not longer than it
pub wrote-few : (l a l2 : List ℕ) (e : ℕ) → Wrote l 0 a l2 e → length l2 ≡ length l → e ≤ length l
wrote-few l a l2 e w k = omega (arith, w.ends, ap length w.written, put-long l a, k)

-- ---- the whole load

pub few-stripes : (l : Load) → taken l ≡ true → l.capacity ≤ 4096
few-stripes l h =
    (sound-facts _ (set-up-both (new_store l) idle l.sizes (standard l.sizes) l.capacity (((trial-laws.taken_is l).0 h).2 (new_store l) idle))).cap-high

pub few_bytes : (l : Load) → taken l ≡ true → l.sizes.n * (l.capacity * α l.sizes) ≤ 32768
few_bytes l h = ((trial-laws.taken_is l).0 h).3

pub few-calls : (l : Load) → taken l ≡ true → l.calls ≤ 4294967295
few-calls l h = ((trial-laws.taken_is l).0 h).1

-- from a store newly set up, over the beginning of an array of bytes 00
pub text_of : (l : Load) (kept : Record) (p : Running) (m : ℕ) → kept ≡ (set_up_both (new_store l) idle l.sizes (standard l.sizes) l.capacity).handed
    → p ≡ (set_up_both (new_store l) idle l.sizes (standard l.sizes) l.capacity).running
    → m ≡ l.sizes.n * (l.capacity * α l.sizes) → m ≤ 32768
    → text_from l l.calls (record { kept = kept; running = p; area = take m (replicate 32768 0); packets = [] }) l.seed ≡ trial_of (some l)
unfolding trial_over
text_of l kept p m ek ep em h =
    let new = set_up_both (new_store l) idle l.sizes (standard l.sizes) l.capacity in
    ap₂ {C = List ℕ} (λ (k : Record) (q : Running). from k q (take m (replicate 32768 0))) ek ep
    ∙ ap (from new.handed new.running) (take-zeros m 32768 h ∙ ap (λ (m : ℕ). replicate m 0) em)
  where
    from : Record → Running → List ℕ → List ℕ
    from k q area = text_from l l.calls (record { kept = k; running = q; area = area; packets = [] }) l.seed

-- ---- by what is loaded

pub loaded-load : (input : List ℕ) (o : rust.Option load.Load) (l : load.Load) → loaded_in o ≡ loaded input → o ≡ rust.Some l → loaded input ≡ some (load_in l)
loaded-load input o l e q = sym e ∙ ap loaded_in q

pub loaded-none : (input : List ℕ) (o : rust.Option load.Load) → loaded_in o ≡ loaded input → o ≡ rust.None → loaded input ≡ none
loaded-none input o e q = sym e ∙ ap loaded_in q

pub load-taken : (input : List ℕ) (l : Load) → loaded input ≡ some l → taken l ≡ true
load-taken input l e = (trial-laws.text-is input l e).0

pub text-loaded : (input : List ℕ) (o : Option Load) → loaded input ≡ o → trial_of o ≡ trial_text input
unfolding trial_text
text-loaded input o e = sym (ap trial_of e)

pub refused-line : (good : Bool) → Printing (refused_line 1) (record { count = 10; left = 0; good = good })
unfolding decimal
refused-line good = record { said = refused_line 1; unsaid = []; whole = append-nil (refused_line 1); long = refl; all = λ e. refl; made = λ e. refl }
