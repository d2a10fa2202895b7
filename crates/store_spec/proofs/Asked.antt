-- The tests of the ledger's lines, put as the store asks them.
-- Assumes nothing.
use Prim.Native.Nat.{ℕ}
use mathlib.Core.Path.{◌≡◌, refl, sym, ◌∙◌, ap, ap₂}
use mathlib.Core.Bool.{Bool, true, false, not}
use mathlib.Core.List.{List, [], ◌∷◌, ◌++◌}
use lib.ListN.{length}
use lib.Dec.{ltb}
use Rattle.lists.specs.Lists.{tabulate, piece}
use Rattle.lists.specs.Tests.{among, below, alls, pick, every, different, apart}
use Rattle.lists.proofs.Tests.{true-false}
use Rattle.store_spec.specs.Packets.{hear_named}
use Rattle.store_spec.specs.Record.{Record, in_service}
use Rattle.store_spec.proofs.Packets.{runs-different}

pub every_append : {A : Type 0} (p : A → Bool) (xs ys : List A) → every p (xs ++ ys) ≡ alls (every p xs ∷ every p ys ∷ [])
every_append p [] ys = go (every p ys)
  where
    go : (t : Bool) → t ≡ alls (true ∷ t ∷ [])
    go true = refl
    go false = refl
every_append p (x ∷ xs) ys = go (p x) (every_append p xs ys)
  where
    go : (t : Bool) → every p (xs ++ ys) ≡ alls (every p xs ∷ every p ys ∷ []) → pick t (every p (xs ++ ys)) false ≡ alls (pick t (every p xs) false ∷ every p ys ∷ [])
    go true e = e
    go false e = refl

pub both_below : (n : ℕ) (xs ys : List ℕ) → below n (xs ++ ys) ≡ alls (below n xs ∷ below n ys ∷ [])
both_below n xs ys = every_append (λ x. ltb x n) xs ys

-- two tests asked as one
last-two : (a b c : Bool) → alls (a ∷ alls (b ∷ c ∷ []) ∷ []) ≡ alls (a ∷ b ∷ c ∷ [])
last-two true true true = refl
last-two true true false = refl
last-two true false c = refl
last-two false b c = refl

last-two-of-four : (a b c d : Bool) → alls (a ∷ b ∷ alls (c ∷ d ∷ []) ∷ []) ≡ alls (a ∷ b ∷ c ∷ d ∷ [])
last-two-of-four true b c d = last-two b c d
last-two-of-four false b c d = refl

pub one_below : (n x : ℕ) → below n (x ∷ []) ≡ ltb x n
one_below n x = go (ltb x n)
  where
    go : (t : Bool) → pick t true false ≡ t
    go true = refl
    go false = refl

-- a board and two lists
pub node-same : (n x : ℕ) (ys ws : List ℕ) → below n (x ∷ (ys ++ ws)) ≡ alls (ltb x n ∷ below n ys ∷ below n ws ∷ [])
node-same n x ys ws = go (ltb x n)
  where
    go : (t : Bool) → pick t (below n (ys ++ ws)) false ≡ alls (t ∷ below n ys ∷ below n ws ∷ [])
    go true = both_below n ys ws
    go false = refl

-- board by board, a mark is on just where the board is in service
pub every-same : (p q : ℕ → Bool) (l : List ℕ) → ((x : ℕ) → p x ≡ q x) → every p l ≡ every q l
every-same p q [] h = refl
every-same p q (x ∷ l) h = go (p x) (q x) (h x) (every-same p q l h)
  where
    go : (t u : Bool) → t ≡ u → every p l ≡ every q l → pick t (every p l) false ≡ pick u (every q l) false
    go true true e k = k
    go false false e k = refl
    go true false e k = absurd (true-false refl e)
    go false true e k = absurd (true-false refl (sym e))

-- the tests of a repair's lists
pub three-below : (n : ℕ) (xs ys ws : List ℕ) → below n (xs ++ (ys ++ ws)) ≡ alls (below n xs ∷ below n ys ∷ below n ws ∷ [])
three-below n xs ys ws =
    both_below n xs (ys ++ ws) ∙ ap (λ (t : Bool). alls (below n xs ∷ t ∷ [])) (both_below n ys ws) ∙ last-two (below n xs) (below n ys) (below n ws)

-- hs and ss are the lists whose runs are asked
pub repeat-same : (d e : ℕ) (fresh hs ss helpers stand_ins : List ℕ)
    → alls (different fresh ∷ every (λ h. different h.senders) (hear_named d e fresh hs ss) ∷ apart fresh (helpers ++ stand_ins) ∷ [])
    ≡ alls
    (different fresh
    ∷ every different (tabulate (length fresh) (λ a. piece d a hs ++ piece e a ss))
    ∷ apart fresh helpers
    ∷ apart fresh stand_ins
    ∷ [])
repeat-same d e fresh hs ss helpers stand_ins =
    ap₂ {C = Bool} (λ (t u : Bool). alls (different fresh ∷ t ∷ u ∷ [])) (runs-different d e fresh hs ss)
    (every_append (λ x. not (among fresh x)) helpers stand_ins)
    ∙ last-two-of-four (different fresh) (every different (tabulate (length fresh) (λ a. piece d a hs ++ piece e a ss)))
    (apart fresh helpers) (apart fresh stand_ins)

module _ (s : Record) (service : List ℕ) (up : (i : ℕ) → in_service s i ≡ among service i) where
  pub serving-same : (fresh : List ℕ) → every (λ i. not (in_service s i)) fresh ≡ apart service fresh
  serving-same fresh = every-same (λ i. not (in_service s i)) (λ i. not (among service i)) fresh (λ i. ap not (up i))

  pub down-same : (helpers stand_ins : List ℕ) → every (in_service s) (helpers ++ stand_ins) ≡ alls (every (among service) helpers ∷ every (among service) stand_ins ∷ [])
  down-same helpers stand_ins = every-same (in_service s) (among service) (helpers ++ stand_ins) up ∙ every_append (among service) helpers stand_ins
