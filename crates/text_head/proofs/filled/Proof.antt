-- `text_head::filled` meets its contract: the pairs' bytes, and what is left of 32 times 00.
-- Assumes nothing.
use mathlib.Core.Path.{◌≡◌, refl, sym, ap, ap₂, ◌∙◌}
use mathlib.Core.List.{List, ◌++◌}
use Prim.Native.Nat.{ℕ, ◌+◌, ◌*◌, ◌-◌, ◌≤◌}
use native.Mathlib.Omega.{arith}
use lib.ListN.{length, take, drop, replicate, length-replicate}
use lib.Seq.{length-take-le}
use Rattle.lists.specs.Lists.{fit}
use Rattle.lists.proofs.Pieces.{length-tabulate}
use Rattle.text_in.specs.Steps.{pair_at, bytes_at}
use Rattle.text_head.proofs.Text.{fill-fit}
use borrow.Author.Rules.{rules}
use Rattle.text_head.proofs.filled.Statement.{statement}
use Rattle.text_head.proofs.filled.Tie as tie

bytes-long : (text : List ℕ) (at n : ℕ) → length (bytes_at text at n) ≡ n
bytes-long text at n = length-tabulate n (λ j. pair_at text (at + 2 * j))

-- bytes over the first of 32 times 00
whole : (text : List ℕ) (at n : ℕ) (y zs : List ℕ) → zs ≡ replicate 32 0 → n ≤ 32 → y ≡ bytes_at text at (length (take
    (n - 0) zs)) → y ++ drop (n - 0) zs ≡ fit 32 (bytes_at text at n)
whole text at n y zs ez h e =
    let m : n - 0 ≡ n = omega arith in
    let l : length zs ≡ 32 = ap length ez ∙ length-replicate {A = ℕ} 32 0 in
    let p : length (take (n - 0) zs) ≡ n = length-take-le (n - 0) zs (omega arith) ∙ m in
    let b = bytes-long text at n in
    ap₂ {C = List ℕ} (λ (a : List ℕ) (k : ℕ). a ++ drop k zs) (e ∙ ap (bytes_at text at) p) (m ∙ sym b)
    ∙ ap (λ (l : List ℕ). bytes_at text at n ++ drop (length (bytes_at text at n)) l) ez
    ∙ fill-fit 32 (bytes_at text at n) (omega (arith, b))

returns : tie.Need-returns
returns c =
    let f = c.before in
    let g = f.before.before.before in
    whole g.args.text.now g.args.at g.args.n _ _ refl g.requires.0 f.fill_pairs.ensures

pub filled_spec : {M : Type 1} → statement M
filled_spec = tie.close (tie.spec (λ c. search rules) (λ c. search rules) (λ c. search rules) (λ c κs. search rules) returns)
