-- The stripe that the a-th fresh board gets, from what boards hold of it: `own j` is what board j holds. By places: the a-th fresh board names the
-- a-th run of c boards, d helpers and then its stand-ins, and hears the other fresh boards in their order. The definitions are those of the crate store_spec's specs/Stripes.antt,
-- which names boards by their numbers. And the same by rows, which are made once a call.
-- Assumes nothing.
use Rattle.std.specs.Prelude.{ℕ, ◌+◌, ◌-◌, ◌<◌, ◌≡◌, true, List, ◌++◌, length, get_or, drop}
use Rattle.lists.specs.Tests.{different}
use Rattle.lists.specs.Lists.{tabulate, join, piece}
use Rattle.sizes.specs.declared.Sizes.{Sizes}
use Rattle.polynomial.specs.Polynomial.{eval}
use Rattle.mbcr.specs.Share.{point}
use Rattle.mbcr.specs.Rebuild.{g_from, finished_stripe}
use Rattle.repair_hear.specs.Steps.{firsts_of, seconds_of, heard_first, heard_second}
use Rattle.repair_rows.specs.Steps.{past, helpers_at, partners_at}
use Rattle.repair_sent.specs.Steps.{g_rows, stripe_by}

-- no fresh board names a board twice
pub record DifferentRuns (c : ℕ) (fresh named : List ℕ) : Type 0 where
  pub each : (a : ℕ) → a < length fresh → different (piece c a named) ≡ true

-- ---- by places

-- g of each of t fresh boards, from the first bytes of all
abbrev pub polys_of : Sizes → ℕ → ℕ → List ℕ → List ℕ → List ℕ → List ℕ
polys_of z t c xs named firsts = join t (λ a. g_from z xs (helpers_at z c named a) (helpers_at z c firsts a))

-- the bytes that the other fresh boards send the a-th, to the point x, by the g of each
abbrev pub sent_at : Sizes → ℕ → List ℕ → ℕ → ℕ → List ℕ
sent_at z t gs x a = tabulate (t - 1) (λ u. eval (piece z.d (past a u) gs) x)

-- the stripe that the a-th fresh board finishes
unfoldable pub stripe_at : Sizes → ℕ → List ℕ → List ℕ → List ℕ → List ℕ → List ℕ → List ℕ → ℕ → List ℕ
stripe_at z c xs fresh named firsts seconds gs a =
    finished_stripe z xs (get_or fresh a 0) (helpers_at z c named a) (helpers_at z c firsts a) (helpers_at z c seconds a) (partners_at z c fresh named a)
    (drop z.d (piece c a seconds) ++ sent_at z (length fresh) gs (point xs (get_or fresh a 0)) a)

module _ (z : Sizes) (xs : List ℕ) (own : ℕ → List ℕ) (fresh : List ℕ) (c : ℕ) (named : List ℕ) where
  -- the first and the second bytes that all fresh boards hear
  abbrev pub all_firsts : List ℕ
  all_firsts = join (length fresh) (λ a. firsts_of z xs own (get_or fresh a 0) (piece c a named))

  abbrev pub all_seconds : List ℕ
  all_seconds = join (length fresh) (λ a. seconds_of z xs own (get_or fresh a 0) (piece c a named))

  unfoldable pub rebuilt : ℕ → List ℕ
  rebuilt a = stripe_at z c xs fresh named all_firsts all_seconds (polys_of z (length fresh) c xs named all_firsts) a

-- ---- by rows: ff and gf are the factors of the boards named, of which fl and gl bytes of a row count, and rows those of the fresh boards, of which L do

module _ (z : Sizes) (fl gl L : ℕ) (ff gf rows : List ℕ) (own : ℕ → List ℕ) (fresh : List ℕ) (c : ℕ) (named : List ℕ) where
  abbrev pub firsts_by : List ℕ
  firsts_by = tabulate (length named) (heard_first (z.d + z.r) fl gl ff gf own named)

  abbrev pub seconds_by : List ℕ
  seconds_by = tabulate (length named) (heard_second (z.d + z.r) fl gl ff gf own named)

  unfoldable pub rebuilt_by : ℕ → List ℕ
  rebuilt_by a = stripe_by z c L rows fresh seconds_by (g_rows z (length fresh) c L rows firsts_by) a
