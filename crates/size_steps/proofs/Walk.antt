-- A walk by steps: in two parts, and through the list of combinations level by level.
-- Assumes nothing.
use mathlib.Core.Path.{◌≡◌, refl, sym, ap, subst, ◌∙◌}
use mathlib.Core.Bool.{Bool, true, false}
use mathlib.Core.List.{List, [], ◌∷◌, ◌++◌, append_assoc, append-nil}
use Prim.Native.Nat.{ℕ, zero, suc, ◌+◌, ◌*◌, ◌-◌, ◌<◌, ◌≤◌}
use native.Mathlib.Nat.{zero-add, suc-add, add-zero, suc-mul, zero-mul, mul-le-mul}
use native.Mathlib.Numerals.{add-one}
use native.Mathlib.Omega.{arith}
use native.Mathlib.Decide.{dec_lt}
use lib.Dec.{leb, ltb}
use lib.ListN.{length}
use borrow.Author.Tests.{ltb-true, leb-true, lt-ltb, le-ltb, le-leb, lt-leb}
use Rattle.lists.specs.Tests.{pick}
use Rattle.lists.specs.Lists.{join}
use Rattle.lists.proofs.Pieces.{join-suc}
use Rattle.sizes.specs.declared.Sizes.{Sizes}
use Rattle.sizes.specs.Sizing.{legal}
use Rattle.sizes.proofs.Legal.{Legal, legal-facts, legal-yes}
use Rattle.size_list.specs.Combinations.{each, combinations, row, rows}
use Rattle.size_list.proofs.Levels.{one, of_d, of_k, of_n}
use Rattle.size_list.proofs.Count.{count}
use Rattle.std.specs.Prelude.{Some, None}
use Rattle.size_steps.specs.Steps.{Place, from_n, from_k, from_d, next_of, met, after, LegalPlace}
use Rattle.size_steps.specs.Laws.{start, WalkLaws}

-- ---- in two parts

ended : (N m : ℕ) → met N m None ≡ []
ended N zero = refl
ended N (suc m) = refl

stays : (N m : ℕ) → after N m None ≡ None
stays N zero = refl
stays N (suc m) = refl

pub met-add : (N a b : ℕ) (p : Place) → met N (a + b) p ≡ met N a p ++ met N b (after N a p)
met-add N zero b p = ap (λ (m : ℕ). met N m p) (zero-add b)
met-add N (suc a) b (Some z) = ap (λ (m : ℕ). met N m (Some z)) (suc-add a b) ∙ ap (λ (l : List Sizes). z ∷ l) (met-add N a b (next_of N z))
met-add N (suc a) b None = ended N (suc a + b) ∙ sym (ended N b)

pub after-add : (N a b : ℕ) (p : Place) → after N (a + b) p ≡ after N b (after N a p)
after-add N zero b p = ap (λ (m : ℕ). after N m p) (zero-add b)
after-add N (suc a) b (Some z) = ap (λ (m : ℕ). after N m (Some z)) (suc-add a b) ∙ after-add N a b (next_of N z)
after-add N (suc a) b None = stays N (suc a + b) ∙ sym (stays N b)

-- ---- places stay legal

legal-from : (N n k d r : ℕ) → 1 ≤ k → k ≤ d → 1 ≤ r → d + r ≤ n → n ≤ 32 → legal (record { n = n; k = k; d = d; r = r }) ≡ true
legal-from N n k d r a b c e f = legal-yes (record { n = n; k = k; d = d; r = r }) (record { some_read = a; read-helpers = b; some-fresh = c; enough = e; few = f })

module _ (N : ℕ) (few : N ≤ 32) where
  legal-n : (n : ℕ) → 2 ≤ n → LegalPlace (from_n N n)
  legal-n n h = go (leb n N) refl
    where
      go : (t : Bool) → leb n N ≡ t → LegalPlace (from_n N n)
      go true e = rw e (legal-from N n 1 1 1 (omega arith) (omega arith) (omega arith) (omega arith) (omega (arith, leb-true n N e)))
      go false e = rw e tt

  legal-k : (n k : ℕ) → 1 ≤ n → n ≤ 32 → 1 ≤ k → LegalPlace (from_k N n k)
  legal-k n k u h g = go (ltb k n) refl
    where
      go : (t : Bool) → ltb k n ≡ t → LegalPlace (from_k N n k)
      go true e = rw e (legal-from N n k k 1 g (omega arith) (omega arith) (omega (arith, ltb-true k n e)) h)
      go false e = rw e (legal-n (n + 1) (omega arith))

  pub legal-next : (z : Sizes) → Legal z → LegalPlace (next_of N z)
  unfolding next_of from_d
  legal-next z f = go (ltb (z.d + z.r) z.n) refl (ltb (z.d + 1) z.n) refl
    where
      go : (t : Bool) → ltb (z.d + z.r) z.n ≡ t → (u : Bool) → ltb (z.d + 1) z.n ≡ u → LegalPlace (next_of N z)
      go true e u g =
          rw e (legal-from N z.n z.k z.d (z.r + 1) f.some_read f.read-helpers (omega arith) (omega (arith, ltb-true (z.d + z.r) z.n e)) f.few)
      go false e true g =
          rw (e, g) (legal-from N z.n z.k (z.d + 1) 1 f.some_read (omega (arith, f.read-helpers)) (omega arith) (omega (arith, ltb-true (z.d + 1) z.n g)) f.few)
      go false e false g = rw (e, g) (legal-k z.n (z.k + 1) (omega (arith, f.some-fresh, f.enough)) f.few (omega arith))

  pub legal-after : (m : ℕ) (p : Place) → LegalPlace p → LegalPlace (after N m p)
  legal-after zero p h = h
  legal-after (suc m) (Some z) h = legal-after m (next_of N z) (legal-next z (legal-facts z h))
  legal-after (suc m) None h = tt

-- ---- lines

pub rows_append : (xs ys : List Sizes) → rows (xs ++ ys) ≡ rows xs ++ rows ys
rows_append [] ys = refl
rows_append (x ∷ xs) ys = ap (λ (l : List ℕ). row x ++ l) (rows_append xs ys) ∙ sym (append_assoc (row x) (rows xs) (rows ys))

-- one line at a time
pub one_line : (N : ℕ) (z : Sizes) → rows (met N 1 (Some z)) ≡ row z
one_line N z = append-nil (row z)

pub rows_next : (N i : ℕ) (p : Place) → rows (met N (i + 1) p) ≡ rows (met N i p) ++ rows (met N 1 (after N i p))
rows_next N i p = ap rows (met-add N i 1 p) ∙ rows_append (met N i p) (met N 1 (after N i p))

-- ---- through the list

-- from a place a walk meets these, and comes to another place
abbrev Leads : ℕ → Place → List Sizes → Place → Type 0
Leads N p [] q = p ≡ q
Leads N p (z ∷ l) q = (p ≡ Some z) × Leads N (next_of N z) l q

leads-append : (N : ℕ) (p q s : Place) (l m : List Sizes) → Leads N p l q → Leads N q m s → Leads N p (l ++ m) s
leads-append N p q s [] m h g = subst (λ (x : Place). Leads N x m s) (sym h) g
leads-append N p q s (z ∷ l) m h g = (h.0, leads-append N (next_of N z) q s l m h.1 g)

leads-each : (N : ℕ) (from : ℕ → Place) (a m : ℕ) (f : ℕ → List Sizes)
    → ((x : ℕ) → a ≤ x → x < a + m → Leads N (from x) (f x) (from (suc x))) → Leads N (from a) (each a m f) (from (a + m))
leads-each N from a zero f h = ap from (sym (add-zero a))
leads-each N from a (suc m) f h =
    let e : suc a + m ≡ a + suc m = omega arith in
    leads-append N (from a) (from (suc a)) (from (a + suc m)) (f a) (each (suc a) m f) (h a (omega arith) (omega arith))
    (subst (λ (x : ℕ). Leads N (from (suc a)) (each (suc a) m f) (from x)) e (leads-each N from (suc a) m f (λ x l u. h x (omega arith) (omega arith))))

module _ (N : ℕ) where
  -- the place at r of n, k and d, or behind the last r
  abbrev from_r : ℕ → ℕ → ℕ → ℕ → Place
  from_r n k d r = pick (leb (d + r) n) (Some (record { n = n; k = k; d = d; r = r })) (from_d N n k (d + 1))

  leads-r : (n k d r : ℕ) → d + r ≤ n → Leads N (from_r n k d r) (one n k d r) (from_r n k d (suc r))
  unfolding next_of
  leads-r n k d r h = (rw (le-leb (d + r) n h), by (dec_lt (d + r) n))
    where
      by : Dec (d + r < n) → next_of N (record { n = n; k = k; d = d; r = r }) ≡ from_r n k d (suc r)
      by (yes g) = rw (lt-ltb (d + r) n g, le-leb (d + suc r) n (omega arith), add-one r)
      by (no g) = rw (le-ltb (d + r) n (omega arith), lt-leb (d + suc r) n (omega arith))

  leads-d : (n k d : ℕ) → d < n → Leads N (from_d N n k d) (of_d n k d) (from_d N n k (suc d))
  unfolding from_d
  leads-d n k d h =
      let a : from_r n k d 1 ≡ from_d N n k d = rw (le-leb (d + 1) n (omega arith), lt-ltb d n h) in
      let b : from_r n k d (1 + (n - d)) ≡ from_d N n k (suc d) = (rw (lt-leb (d + (1 + (n - d))) n (omega arith))) ∙ ap (from_d N n k) (add-one d) in
      subst (λ (p : Place). Leads N p (of_d n k d) (from_d N n k (suc d))) a
      (subst (λ (p : Place). Leads N (from_r n k d 1) (of_d n k d) p) b (leads-each N (from_r n k d) 1 (n - d) (one n k d) (λ r l u. leads-r n k d r (omega arith))))

  leads-k : (n k : ℕ) → k < n → Leads N (from_k N n k) (of_k n k) (from_k N n (suc k))
  unfolding from_d
  leads-k n k h =
      let a : from_d N n k k ≡ from_k N n k = rw (lt-ltb k n h) in
      let e : k + (n - k) ≡ n = omega arith in
      let b : from_d N n k (k + (n - k)) ≡ from_k N n (suc k) = ap (from_d N n k) e ∙ (rw (le-ltb n n (omega arith))) ∙ ap (from_k N n) (add-one k) in
      subst (λ (p : Place). Leads N p (of_k n k) (from_k N n (suc k))) a
      (subst (λ (p : Place). Leads N (from_d N n k k) (of_k n k) p) b (leads-each N (from_d N n k) k (n - k) (of_d n k) (λ d l u. leads-d n k d (omega arith))))

  leads-n : (n : ℕ) → 2 ≤ n → n ≤ N → Leads N (from_n N n) (of_n n) (from_n N (suc n))
  leads-n n h g =
      let a : from_k N n 1 ≡ from_n N n = rw (lt-ltb 1 n (omega arith), le-leb n N g) in
      let e : 1 + (n - 1) ≡ n = omega arith in
      let b : from_k N n (1 + (n - 1)) ≡ from_n N (suc n) = ap (from_k N n) e ∙ (rw (le-ltb n n (omega arith))) ∙ ap (from_n N) (add-one n) in
      subst (λ (p : Place). Leads N p (of_n n) (from_n N (suc n))) a
      (subst (λ (p : Place). Leads N (from_k N n 1) (of_n n) p) b (leads-each N (from_k N n) 1 (n - 1) (of_k n) (λ k l u. leads-k n k (omega arith))))

  leads-all : 2 ≤ N → Leads N start (combinations N) None
  unfolding combinations
  leads-all h =
      let a : from_n N 2 ≡ start = rw (le-leb 2 N h) in
      let b : from_n N (2 + (N - 1)) ≡ None = rw (lt-leb (2 + (N - 1)) N (omega arith)) in
      subst (λ (p : Place). Leads N p (combinations N) None) a
      (subst (λ (p : Place). Leads N (from_n N 2) (combinations N) p) b (leads-each N (from_n N) 2 (N - 1) of_n (λ n l u. leads-n n l (omega arith))))

  -- so many steps meet all
  leads-met : (l : List Sizes) (p : Place) (m : ℕ) → Leads N p l None → length l ≤ m → (met N m p ≡ l) × (after N m p ≡ None)
  leads-met [] p m e h = (ap (met N m) e ∙ ended N m, ap (after N m) e ∙ stays N m)
  leads-met (z ∷ l) p zero e h = absurd (omega arith)
  leads-met (z ∷ l) p (suc m) e h =
      let r : (met N m (next_of N z) ≡ l) × (after N m (next_of N z) ≡ None) = leads-met l (next_of N z) m e.1 (omega arith) in
      (ap (met N (suc m)) e.0 ∙ ap (λ (x : List Sizes). z ∷ x) r.0, ap (after N (suc m)) e.0 ∙ r.1)

-- ---- the laws

all-met : (N m : ℕ) → 2 ≤ N → length (combinations N) ≤ m → met N m start ≡ combinations N
all-met N m h g = (leads-met N (combinations N) start m (leads-all N h) g).0

pub all-ends : (N m : ℕ) → 2 ≤ N → length (combinations N) ≤ m → after N m start ≡ None
all-ends N m h g = (leads-met N (combinations N) start m (leads-all N h) g).1

in_blocks : (N w m : ℕ) → join m (λ t. rows (met N w (after N (t * w) start))) ≡ rows (met N (m * w) start)
in_blocks N w zero = ap (λ (x : ℕ). rows (met N x start)) (sym (zero-mul w))
in_blocks N w (suc m) =
    join-suc m (λ t. rows (met N w (after N (t * w) start)))
    ∙ ap (λ (l : List ℕ). l ++ rows (met N w (after N (m * w) start))) (in_blocks N w m)
    ∙ sym (rows_append (met N (m * w) start) (met N w (after N (m * w) start)))
    ∙ ap rows (sym (met-add N (m * w) w start))
    ∙ ap (λ (x : ℕ). rows (met N x start)) (sym (suc-mul m w))

pub few-combinations : (N : ℕ) → N ≤ 32 → length (combinations N) ≤ 47104
few-combinations N h =
    let a : N + 2 ≤ 34 = omega arith in
    let b : N + 1 ≤ 33 = omega arith in
    let c : N - 1 ≤ 31 = omega arith in
    let p : (N + 2) * (N + 1) * N * (N - 1) ≤ 34 * 33 * 32 * 31 = mul-le-mul (mul-le-mul (mul-le-mul a b) h) c in
    omega (arith, count N, p)

pub walk-laws : WalkLaws
walk-laws = record {
  all = all-met;
  ends = all-ends;
  blocks = λ N h g. in_blocks N 1024 46 ∙ ap rows (all-met N (46 * 1024) h (few-combinations N g));
}
