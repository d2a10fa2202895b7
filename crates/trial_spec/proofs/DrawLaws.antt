-- The laws of specs/DrawLaws.antt: each part of the trial, for all numbers and lists.
-- Assumes nothing.
use mathlib.Core.Path.{◌≡◌, refl, sym, ap, ◌∙◌}
use mathlib.Core.Bool.{Bool, true, false}
use mathlib.Core.Logic.{◌⊎◌, inl}
use mathlib.Core.Option.{Option, some, none}
use mathlib.Core.List.{List, [], ◌∷◌, ◌++◌, append_assoc}
use Prim.Native.Nat.{ℕ, zero, suc, ◌+◌, ◌%◌, ◌<◌}
use native.Mathlib.Omega.{arith}
use lib.Dec.{eqb}
use lib.ListN.{length, get_or}
use borrow.Author.Tests.{ne_eqb}
use Rattle.lists.specs.Tests.{pick, alls}
use Rattle.lists.specs.Lists.{join}
use Rattle.lists.proofs.Pieces.{length-tabulate, tabulate-at, length-join, piece-join, piece-at}
use Rattle.sizes.specs.Refusals.{Said}
use Rattle.board_spec.specs.Text.{decimal, text_line}
use Rattle.printer.proofs.Forms.{line_taken, step}
use Rattle.beside_spec.specs.Acting.{Call, write, lose, State, act}
use Rattle.ledger_spec.specs.Ledger.{Reply}
use Rattle.generator.specs.Generator.{after, emitted}
use Rattle.trial_spec.specs.Trial.{Load, eight_lines, taken, loaded, counted, drawn, drawn_calls, call_line, printed, left, store_replies}
use Rattle.trial_spec.specs.DrawLaws.{Eight, Numbers, asks, spelt, Asked, byte, CountsOn, SameForEach, Repairs, Reads, before, numbers, DrawLaws}

-- ---- what is read

-- eight lines in their form are taken as the numbers that they spell
eight-taken : {A : Type 0} (bad : A) (e : Eight) → Numbers e → (behind : List ℕ) (go : Load → List ℕ → A) → eight_lines bad (asks e behind) go ≡ go (spelt e) behind
eight-taken bad e h behind go =
    line_taken bad (0x6E ∷ []) e.n h.0 _ _
    ∙ line_taken bad (0x6B ∷ []) e.k h.1 _ _
    ∙ line_taken bad (0x64 ∷ []) e.d h.2 _ _
    ∙ line_taken bad (0x72 ∷ []) e.r h.3 _ _
    ∙ line_taken bad (0x43 ∷ []) e.C h.4 _ _
    ∙ line_taken bad (0x73 ∷ 0x65 ∷ 0x65 ∷ 0x64 ∷ []) e.seed h.5 _ _
    ∙ line_taken bad (0x6C ∷ 0x65 ∷ 0x6E ∷ 0x67 ∷ 0x74 ∷ 0x68 ∷ []) e.L h.6 _ _
    ∙ line_taken bad (0x63 ∷ 0x61 ∷ 0x6C ∷ 0x6C ∷ 0x73 ∷ []) e.calls h.7 behind _

-- lines behind a line
behind-line : (name l : List ℕ) {rest more : List ℕ} → rest ≡ more → text_line name l ++ rest ≡ text_line name l ++ more
behind-line name l e = ap (λ (m : List ℕ). text_line name l ++ m) e

-- any other input has a line that is malformed
eight-else : {A : Type 0} (bad : A) (input : List ℕ) (go : Load → List ℕ → A) → Asked input ⊎ (eight_lines bad input go ≡ bad)
eight-else bad input go =
    step bad (0x6E ∷ []) input _ (λ a.
    step bad (0x6B ∷ []) a.behind _ (λ b.
    step bad (0x64 ∷ []) b.behind _ (λ c.
    step bad (0x72 ∷ []) c.behind _ (λ d.
    step bad (0x43 ∷ []) d.behind _ (λ e.
    step bad (0x73 ∷ 0x65 ∷ 0x65 ∷ 0x64 ∷ []) e.behind _ (λ f.
    step bad (0x6C ∷ 0x65 ∷ 0x6E ∷ 0x67 ∷ 0x74 ∷ 0x68 ∷ []) f.behind _ (λ g.
    step bad (0x63 ∷ 0x61 ∷ 0x6C ∷ 0x6C ∷ 0x73 ∷ []) g.behind _ (λ h. inl (record {
      digits = record {
        n = a.figures;
        k = b.figures;
        d = c.figures;
        r = d.figures;
        C = e.figures;
        seed = f.figures;
        L = g.figures;
        calls = h.figures;
      };
      numbers = (a.is_number, b.is_number, c.is_number, d.is_number, e.is_number, f.is_number, g.is_number, h.is_number);
      behind = h.behind;
      whole =
          a.whole
          ∙ behind-line (0x6E ∷ []) a.figures
          (b.whole ∙ behind-line (0x6B ∷ []) b.figures
          (c.whole ∙ behind-line (0x64 ∷ []) c.figures
          (d.whole ∙ behind-line (0x72 ∷ []) d.figures
          (e.whole ∙ behind-line (0x43 ∷ []) e.figures
          (f.whole ∙ behind-line (0x73 ∷ 0x65 ∷ 0x65 ∷ 0x64 ∷ []) f.figures
          (g.whole ∙ behind-line (0x6C ∷ 0x65 ∷ 0x6E ∷ 0x67 ∷ 0x74 ∷ 0x68 ∷ []) g.figures h.whole))))));
    })))))))))

-- where the lines end
abbrev ends : Load → List ℕ → Option Load
ends l behind = pick (alls (taken l ∷ eqb (length behind) 0 ∷ [])) (some l) none

all-else : (input : List ℕ) → Asked input ⊎ (loaded input ≡ none)
unfolding loaded
all-else input = eight-else none input ends

nothing-behind : (t : Bool) (l : Load) → pick (alls (t ∷ true ∷ [])) (some l) none ≡ pick t (some l) none
nothing-behind true l = refl
nothing-behind false l = refl

asked-for : (e : Eight) → Numbers e → loaded (asks e []) ≡ pick (taken (spelt e)) (some (spelt e)) none
unfolding loaded
asked-for e h = eight-taken none e h [] ends ∙ nothing-behind (taken (spelt e)) (spelt e)

something-behind : (t : Bool) (l : Load) (m : ℕ) → pick (alls (t ∷ eqb (suc m) 0 ∷ [])) (some l) none ≡ none
something-behind t l m = rw (ne_eqb (suc m) 0 (λ e. absurd (omega (arith, e)))) (by t)
  where
    by : (t : Bool) → pick (alls (t ∷ false ∷ [])) (some l) none ≡ none
    by true = refl
    by false = refl

bytes-behind : (e : Eight) → Numbers e → (b : ℕ) (behind : List ℕ) → loaded (asks e (b ∷ behind)) ≡ none
unfolding loaded
bytes-behind e h b behind = eight-taken none e h (b ∷ behind) ends ∙ something-behind (taken (spelt e)) (spelt e) (length behind)

-- ---- what is drawn

writes : (l : Load) (state : ℕ) → byte 1 state % 4 ≡ 0
    → drawn l state ≡ record { call = write (emitted l.length (after 1 state)); state = after (suc l.length) state }
unfolding drawn
writes l state e = rw e refl

loses : (l : Load) (state : ℕ) → byte 1 state % 4 ≡ 1 → drawn l state ≡ record { call = lose (byte 2 state % l.sizes.n); state = after 2 state }
unfolding drawn
loses l state e = rw e refl

counts-on : (n first count : ℕ) → CountsOn n first count (counted n first count)
counts-on n first count = record { as_many = length-tabulate count _; each = λ i h. tabulate-at count _ 0 i h }

same-for-each : (n first count each : ℕ) → SameForEach n first count each (join each (λ _. counted n first count))
same-for-each n first count each = record {
  as_many = length-join each count _ (λ j h. length-tabulate count _);
  all = λ j i h k.
      sym (piece-at count j (join each (λ _. counted n first count)) i 0 k)
      ∙ ap (λ (m : List ℕ). get_or m i 0) (piece-join each count (λ _. counted n first count) (λ j h. length-tabulate count _) j h)
      ∙ tabulate-at count _ 0 i k;
}

repairs : (l : Load) (state : ℕ) → byte 1 state % 4 ≡ 2 → Repairs l (byte 2 state % l.sizes.n) (drawn l state).call × ((drawn l state).state ≡ after 2 state)
unfolding drawn
repairs l state e =
    let z = l.sizes in
    let first = byte 2 state % z.n in (
      record {
        fresh = counted z.n first z.r;
        helpers = join z.r (λ _. counted z.n (first + z.r) z.d);
        is = rw e refl;
        fresh-are = counts-on z.n first z.r;
        helpers-are = same-for-each z.n (first + z.r) z.d z.r;
      },
      rw e refl,
    )

reads : (l : Load) (state : ℕ) → byte 1 state % 4 ≡ 3 → Reads l (byte 2 state % l.sizes.n) (drawn l state).call × ((drawn l state).state ≡ after 2 state)
unfolding drawn
reads l state e =
    let z = l.sizes in
    let first = byte 2 state % z.n in (
      record { boards = counted z.n first z.k; is = rw e refl; boards-are = counts-on z.n first z.k },
      rw e refl,
    )

call_at : (l : Load) (m state i : ℕ) (other : Call) → i < m → get_or (drawn_calls l m state) i other ≡ (drawn l (before l i state)).call
call_at l zero state i other h = absurd (omega arith)
call_at l (suc m) state zero other h = refl
call_at l (suc m) state (suc i) other h = call_at l m (drawn l state).state i other (omega arith)

-- ---- what is printed

next-line : (calls : List Call) (replies : List Reply) (call : Call) (reply : Reply) → length calls ≡ length replies
    → printed (calls ++ (call ∷ [])) (replies ++ (reply ∷ [])) ≡ printed calls replies ++ call_line call reply.answer
next-line [] [] call reply h = by (call_line call reply.answer)
  where
    by : (l : List ℕ) → l ++ [] ≡ l
    by [] = refl
    by (b ∷ l) = ap {B = List ℕ} (λ m. b ∷ m) (by l)
next-line [] (r ∷ replies) call reply h = absurd (omega (arith, h))
next-line (c ∷ calls) [] call reply h = absurd (omega (arith, h))
next-line (c ∷ calls) (r ∷ replies) call reply h =
    ap (λ (m : List ℕ). call_line c r.answer ++ m) (next-line calls replies call reply (omega (arith, h)))
    ∙ sym (append_assoc (call_line c r.answer) (printed calls replies) (call_line call reply.answer))

a-reply-each : (w : State) (calls : List Call) → length (store_replies w calls) ≡ length calls
a-reply-each w [] = refl
a-reply-each w (c ∷ calls) = ap suc (a-reply-each (left (act w c)) calls)

-- the parts behind the word, taken together from the right
from-right : (refusal reported moved end : List ℕ) → refusal ++ moved ++ reported ++ end ≡ refusal ++ (moved ++ (reported ++ end))
from-right refusal reported moved end = append_assoc (refusal ++ moved) reported end ∙ append_assoc refusal moved (reported ++ end)

pub draw-laws : DrawLaws
unfolding call_line
draw-laws = record {
  all-else = all-else;
  bytes-behind = bytes-behind;
  asked-for = asked-for;
  writes = writes;
  loses = loses;
  repairs = repairs;
  reads = reads;
  call_at = call_at;
  next-line = next-line;
  a-reply-each = a-reply-each;
  write-line = λ file a. behind-word (0x6F ∷ 0x70 ∷ 0x3D ∷ 0x77 ∷ 0x72 ∷ 0x69 ∷ 0x74 ∷ 0x65 ∷ []) a;
  lose-line = λ board a. behind-word (0x6F ∷ 0x70 ∷ 0x3D ∷ 0x6C ∷ 0x6F ∷ 0x73 ∷ 0x65 ∷ []) a;
  repair-line = λ fresh helpers stand_ins a. behind-word (0x6F ∷ 0x70 ∷ 0x3D ∷ 0x72 ∷ 0x65 ∷ 0x70 ∷ 0x61 ∷ 0x69 ∷ 0x72 ∷ []) a;
  read-line = λ boards output a. behind-word (0x6F ∷ 0x70 ∷ 0x3D ∷ 0x72 ∷ 0x65 ∷ 0x61 ∷ 0x64 ∷ []) a;
}
  where
    behind-word : (op : List ℕ) (a : Said)
        → op ++ (0x20 ∷ 0x61 ∷ 0x6E ∷ 0x73 ∷ 0x77 ∷ 0x65 ∷ 0x72 ∷ 0x3D ∷ [])
        ++ decimal a.refusal ++ (0x20 ∷ 0x6D ∷ 0x6F ∷ 0x76 ∷ 0x65 ∷ 0x64 ∷ 0x3D ∷ []) ++ decimal a.reported ++ (0x0A ∷ [])
        ≡ op ++ numbers a
    behind-word op a =
        let answer : List ℕ = 0x20 ∷ 0x61 ∷ 0x6E ∷ 0x73 ∷ 0x77 ∷ 0x65 ∷ 0x72 ∷ 0x3D ∷ [] in
        let moved : List ℕ = 0x20 ∷ 0x6D ∷ 0x6F ∷ 0x76 ∷ 0x65 ∷ 0x64 ∷ 0x3D ∷ [] in
        from-right (op ++ answer ++ decimal a.refusal) (decimal a.reported) moved (0x0A ∷ [])
        ∙ append_assoc (op ++ answer) (decimal a.refusal) (moved ++ (decimal a.reported ++ (0x0A ∷ [])))
        ∙ append_assoc op answer (decimal a.refusal ++ (moved ++ (decimal a.reported ++ (0x0A ∷ []))))
