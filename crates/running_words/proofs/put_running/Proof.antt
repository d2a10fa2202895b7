-- `running_words::put_running` meets its contract: three words, and the words of the arrays behind them.
-- Assumes nothing.
use Prim.Native.Nat.{ℕ}
use mathlib.Core.Path.{◌≡◌, sym, ap, ◌∙◌}
use mathlib.Core.List.{List}
use native.Mathlib.Omega.{arith}
use mir.Val.{bool_byte}
use lib.ListN.{length, set}
use borrow.Author.Rules.{rules}
use borrow.Rule.Slice.PartMut.{put_mid}
use Rattle.record.specs.Records.{running_in}
use Rattle.repair_words.specs.RepairWords.{pack}
use Rattle.running_words.proofs.Words71.{flag_word, three-long, part-long, words-put}
use Rattle.running_words.proofs.put_running.Statement.{statement}
use Rattle.running_words.proofs.put_running.Tie as tie

-- places in the code
abbrev words-1-of-words-2-1 : tie.After-words-2-1 → tie.After-words-1
words-1-of-words-2-1 c = c.before.before.before.before.before

abbrev start-of-fresh-2-1 : tie.After-fresh-2-1 → tie.Start
start-of-fresh-2-1 c = c.before.before.before.before.before.before

abbrev words-2-1-of-slice_known-4-1 : tie.After-slice_known-4-1 → tie.After-words-2-1
words-2-1-of-slice_known-4-1 c = c.before.before.before.before.before.before

abbrev start-of-put_packed-arg-1 : tie.After-put_packed-arg-1 → tie.Start
start-of-put_packed-arg-1 c = start-of-fresh-2-1 c.before

abbrev start-of-words-1 : tie.After-words-1 → tie.Start
start-of-words-1 c = start-of-put_packed-arg-1 c.before.before

abbrev words-1-of-slice_known-4-1 : tie.After-slice_known-4-1 → tie.After-words-1
words-1-of-slice_known-4-1 c = words-1-of-words-2-1 c.before.before.before.before.before.before

abbrev start-of-slice_known-4-1 : tie.After-slice_known-4-1 → tie.Start
start-of-slice_known-4-1 c = start-of-words-1 c.before.before.before.before.before.before.before.before.before.before.before

-- the arrays have their lengths
fresh-long : tie.Need-slice_bounds-put_packed-end
fresh-long c = search rules

helpers-long : tie.Need-slice_bounds-put_packed-end-3
helpers-long c = search rules

stand-ins-long : tie.Need-slice_bounds-put_packed-end-5
stand-ins-long c = search rules

-- the words after the three numbers, and after each array
abbrev three : tie.Start → List ℕ
three g = set (set (set g.args.words.now 0 (bool_byte g.args.running.running)) 1 g.args.running.count) 2 g.args.running.carried

all_three : (g : tie.Start) → length (three g) ≡ 71
all_three g = three-long g.args.words.now (bool_byte g.args.running.running) g.args.running.count g.args.running.carried g.requires

abbrev one : tie.After-words-1 → List ℕ
one c = put_mid 3 4 (three (start-of-words-1 c)) c.put_packed.new.words

one-long : (c : tie.After-words-1) → length (one c) ≡ 71
one-long c = c.words-1.given.1 ∙ all_three (start-of-words-1 c)

abbrev two : tie.After-words-2-1 → List ℕ
two c = put_mid 7 32 (one (words-1-of-words-2-1 c)) c.put_packed-2.new.words

two-long : (c : tie.After-words-2-1) → length (two c) ≡ 71
two-long c = c.words-2-1.given.1 ∙ one-long (words-1-of-words-2-1 c)

returns : tie.Need-returns
returns c =
    let p = running_in c.args.running in
    words-put p c.args.words.now _ _ _ (bool_byte c.args.running.running) c.requires (flag_word c.args.running.running)
    (c.put_packed.ensures ∙ ap (λ (m : ℕ). pack m p.fresh) (part-long (three (start-of-slice_known-4-1 c)) 3 4 (omega (arith, all_three (start-of-slice_known-4-1 c)))))
    (c.put_packed-2.ensures ∙ ap (λ (m : ℕ). pack m p.helpers) (part-long (one (words-1-of-slice_known-4-1 c)) 7 32 (omega (arith, one-long (words-1-of-slice_known-4-1 c)))))
    (c.put_packed-3.ensures ∙ ap (λ (m : ℕ). pack m p.stand_ins) (part-long (two (words-2-1-of-slice_known-4-1 c)) 39 32 (omega (arith, two-long (words-2-1-of-slice_known-4-1 c)))))

pub put_running_spec : {M : Type 1} → statement M
put_running_spec =
    tie.close
    (tie.spec
    (λ c. search rules)
    (λ c. search rules)
    (λ c. search rules)
    (λ c. search rules)
    fresh-long
    (λ c. search rules)
    (λ c. search rules)
    (λ c. omega (arith, all_three (start-of-fresh-2-1 c)))
    (λ c κs. let l = three (start-of-put_packed-arg-1 c) in omega (arith, fresh-long c.before, part-long l 3 4 (omega (arith, all_three (start-of-put_packed-arg-1 c)))))
    helpers-long
    (λ c. search rules)
    (λ c. search rules)
    (λ c. omega (arith, one-long c.before.before))
    (λ c κs. let l = one c.before.before.before in omega (arith, helpers-long c.before, part-long l 7 32 (omega (arith, one-long c.before.before.before))))
    stand-ins-long
    (λ c. search rules)
    (λ c. search rules)
    (λ c. omega (arith, two-long c.before.before))
    (λ c κs. let l = two c.before.before.before in omega (arith, stand-ins-long c.before, part-long l 39 32 (omega (arith, two-long c.before.before.before))))
    (λ c. c.words-3-1.given.1 ∙ two-long (words-2-1-of-slice_known-4-1 c) ∙ sym c.requires)
    returns)
