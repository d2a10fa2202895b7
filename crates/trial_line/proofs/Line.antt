-- The line by the kind of call is the definition's; and it has at most 48 bytes.
-- Assumes nothing.
use mathlib.Core.Path.{◌≡◌, refl, sym, ap, ◌∙◌}
use mathlib.Core.Bool.{Bool, true, false}
use mathlib.Core.List.{List, [], ◌∷◌, ◌++◌, append_assoc}
use Prim.Native.Nat.{ℕ, zero, suc, ◌+◌, ◌*◌, ◌/◌, ◌%◌, ◌≤◌, ◌<◌}
use native.Mathlib.Nat.{div-add-mod'}
use native.Mathlib.Decide.{dec_lt}
use native.Mathlib.Omega.{arith}
use lib.Dec.{eqb}
use lib.ListN.{length, replicate, length-append}
use Rattle.lists.specs.Tests.{pick}
use Rattle.lists.specs.Lists.{join}
use Rattle.sizes.specs.Refusals.{Said}
use Rattle.board_spec.specs.Text.{decimal}
use Rattle.text_lines.proofs.Decimals.{length-one, length_more}
use Rattle.beside_spec.specs.Acting.{Call, write, lose, repair, read}
use Rattle.generator.specs.Generator.{step, top_byte, after, emitted}
use Rattle.trial_spec.specs.Trial.{Load, Drawn, counted, board_call, drawn, call_line}
use Rattle.trial_line.specs.Line.{opening, moved_end, line_of}

-- ---- the line is the definition's

-- the pieces behind the beginning, in the definition's order
regroup : (front : List ℕ) (a : Said) → front ++ decimal a.refusal ++ moved_end a.reported
    ≡ front ++ decimal a.refusal ++ (0x20 ∷ 0x6D ∷ 0x6F ∷ 0x76 ∷ 0x65 ∷ 0x64 ∷ 0x3D ∷ []) ++ decimal a.reported ++ (0x0A ∷ [])
regroup front a = sym (simp append_assoc)

-- one of four calls, by three tests
module _ (file : List ℕ) (board : ℕ) (fresh helpers boards output : List ℕ) (a : Said) where
  by_tests : (t u v : Bool) → call_line (pick t (write file) (pick u (lose board) (pick v (repair fresh helpers []) (read boards output)))) a
      ≡ pick t (opening 0) (pick u (opening 1) (pick v (opening 2) (opening 3))) ++ decimal a.refusal ++ moved_end a.reported
  unfolding call_line
  by_tests true u v = sym (regroup (opening 0) a)
  by_tests false true v = sym (regroup (opening 1) a)
  by_tests false false true = sym (regroup (opening 2) a)
  by_tests false false false = sym (regroup (opening 3) a)

-- what is drawn, with the test of the kind inside
pub call-of : (l : Load) (state : ℕ) → let op = top_byte (step state) % 4 in (drawn l state).call
    ≡ pick (eqb op 0) (write (emitted l.length (step state))) (board_call l op (top_byte (step (step state)) % l.sizes.n))
unfolding drawn
call-of l state = by (eqb (top_byte (step state) % 4) 0)
  where
    by : (t : Bool) → (pick {A = Drawn} t (record { call = write (emitted l.length (step state)); state = after l.length (step state) })
        (record { call = board_call l (top_byte (step state) % 4) (top_byte (step (step state)) % l.sizes.n); state = step (step state) })).call
        ≡ pick t (write (emitted l.length (step state))) (board_call l (top_byte (step state) % 4) (top_byte (step (step state)) % l.sizes.n))
    by true = refl
    by false = refl

pub line-drawn : (l : Load) (state : ℕ) (a : Said) → line_of (top_byte (step state) % 4) a ≡ call_line (drawn l state).call a
line-drawn l state a =
    let op = top_byte (step state) % 4 in
    let first = top_byte (step (step state)) % l.sizes.n in
    let z = l.sizes in
    sym (ap (λ (c : Call). call_line c a) (call-of l state)
    ∙ by_tests (emitted l.length (step state)) first (counted z.n first z.r) (join z.r (λ _. counted z.n (first + z.r) z.d))
    (counted z.n first z.k) (replicate l.length 0) a (eqb op 0) (eqb op 1) (eqb op 2))

-- ---- its length

-- 10 to the power k + 1
abbrev tens : ℕ → ℕ
tens zero = 10
tens (suc k) = 10 * tens k

few-digits : (k x : ℕ) → x < tens k → length (decimal x) ≤ suc k
few-digits zero x h = omega (arith, length-one x h)
few-digits (suc k) x h = by (dec_lt x 10) (few-digits k (x / 10) (omega (arith, h, div-add-mod' x 10)))
  where
    by : Dec (x < 10) → length (decimal (x / 10)) ≤ suc k → length (decimal x) ≤ suc (suc k)
    by (yes l) t = omega (arith, length-one x l)
    by (no l) t = omega (arith, length_more x (omega arith), t)

-- a byte has at most three digits, and a word at most twenty
pub byte-digits : (x : ℕ) → x < 256 → length (decimal x) ≤ 3
byte-digits x h = few-digits 2 x (omega (arith, h))

pub word-digits : (x : ℕ) → x < 18446744073709551616 → length (decimal x) ≤ 20
word-digits x h = few-digits 19 x (omega (arith, h))

pub opening-most : (op : ℕ) → length (opening op) ≤ 17
opening-most op = by (eqb op 0) (eqb op 1) (eqb op 2)
  where
    by : (t u v : Bool) → length (pick t (opening 0) (pick u (opening 1) (pick v (opening 2) (opening 3)))) ≤ 17
    by true u v = omega arith
    by false true v = omega arith
    by false false true = omega arith
    by false false false = omega arith

pub moved-most : (x : ℕ) → x < 18446744073709551616 → length (moved_end x) ≤ 28
moved-most x h = simp length-append (omega (arith, word-digits x h))
