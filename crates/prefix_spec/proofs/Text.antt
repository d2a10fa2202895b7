-- How far a text goes along with the accepted ones: its lines, one after another.
-- Assumes nothing.
use mathlib.Core.Path.{◌≡◌, refl, sym, ap, ◌∙◌}
use mathlib.Core.Bool.{Bool, true, false}
use mathlib.Core.Logic.{inl, inr}
use mathlib.Core.Option.{Option, some, none}
use mathlib.Core.List.{List, [], ◌∷◌}
use Prim.Native.Nat.{ℕ, ◌*◌, ◌-◌, ◌≤◌, ◌<◌}
use native.Mathlib.Omega.{arith}
use lib.Dec.{ltb, leb, eqb}
use lib.ListN.{length}
use borrow.Author.Tests.{eqb-true, leb-true, le-leb, lt-ltb, ltb-true}
use Rattle.lists.specs.Tests.{pick, given}
use Rattle.lists.proofs.Tests.{true-false, is_false, alls-hold, hold-alls}
use Rattle.number_lines.specs.Lines.{line}
use Rattle.number_lines.proofs.Picks.{yes, no}
use Rattle.point_lines.specs.Lines.{read_pairs}
use Rattle.sizes.specs.declared.Sizes.{Sizes}
use Rattle.sizes.specs.Sizing.{legal, α, B, stripes}
use Rattle.sizes.proofs.Legal.{Legal, legal-facts, legal-yes}
use Rattle.text_spec.specs.Texts.{ShareTold, admitted, some_points, data_name, Found, found, data_at, points_at, text_at, whole, read_text}
use Rattle.prefix_spec.specs.Prefix.{line_on, data_on, pairs_on, points_on, longest}
use Rattle.prefix_spec.proofs.Best.{Best, common, best-same}
use Rattle.prefix_spec.proofs.Numbers.{line-none, line-best}
use Rattle.prefix_spec.proofs.Pairs.{name-best, pairs-best}
use Rattle.prefix_spec.proofs.Points.{name-starts, points-best}

-- a text with nothing behind it
abbrev wholly : Option Found → Bool
wholly o = given (whole o)

-- ---- data=

nothing-common : (input : List ℕ) → common input [] ≡ 0
nothing-common [] = refl
nothing-common (b ∷ input) = refl

-- nothing may be behind the data
end-best : (z : Sizes) (node L : ℕ) (xs share input : List ℕ) → Best (λ w. wholly (found z node L xs share w)) input 0
end-best z node L xs share input = record {
  text = [];
  is-accepted = refl;
  as-far = nothing-common input;
  no-further = λ w e. omega (arith, ap (common input) (empty w e) ∙ nothing-common input);
}
  where
    empty : (w : List ℕ) → wholly (found z node L xs share w) ≡ true → w ≡ []
    empty [] e = refl
    empty (b ∷ w) e = by (eqb (length (b ∷ w)) 0) refl e
      where
        by : (t : Bool) → eqb (length (b ∷ w)) 0 ≡ t
            → given {A = ShareTold} (pick t (some (record { sizes = z; points = xs; length = L; node = node; share = share })) none) ≡ true → b ∷ w ≡ []
        by true h e = absurd (omega (arith, eqb-true (length (b ∷ w)) 0 h))
        by false h e = absurd (true-false e refl)

data-best : (z : Sizes) (node L : ℕ) (xs input : List ℕ) → Best (λ w. wholly (data_at z node L xs w)) input (data_on z L input)
data-best z node L xs input =
    name-best none wholly refl (λ w. read_pairs none (stripes z L * α z) w (found z node L xs)) (λ input. pairs_on (λ m xs. true) (stripes z L * α z) [] input (λ rest. 0))
    (λ input.
    pairs-best none wholly refl (λ m xs. true) (λ m xs. Unit {0}) (found z node L xs) (λ rest. 0) (λ m xs x i h. tt) (λ m xs i e. (0, omega arith, refl)) (λ m xs x i h e. refl)
    (λ share i e input. end-best z node L xs share input) (λ share i e. absurd (true-false refl e)) (stripes z L * α z) [] input tt refl)
    data_name input

-- ---- points= or not

rest-best : (z : Sizes) → legal z ≡ true → (node L : ℕ) (input : List ℕ) → Best (λ w. wholly (some_points none z w (data_at z node L))) input (points_on z L input)
unfolding points_on
rest-best z ok node L input =
    let f = legal-facts z ok in
    points-best none wholly refl z f.few (omega (arith, f.enough, f.some-fresh)) (data_at z node L) (data_on z L) (λ xs input. data-best z node L xs input)
    (λ xs w e q. omega (arith, q, name-starts none wholly refl 0x64 (0x61 ∷ 0x74 ∷ 0x61 ∷ 0x3D ∷ []) w (λ w. read_pairs none (stripes z L * α z) w (found z node L xs)) e)) input

-- ---- the lines of numbers

admits : (z : Sizes) (node L : ℕ) → legal z ≡ true → L ≤ 4096 * B z → node < z.n → admitted z node L ≡ true
unfolding admitted
admits z node L a b c = hold-alls (legal z ∷ leb L (4096 * B z) ∷ ltb node z.n ∷ []) (a, (le-leb L (4096 * B z) b, (lt-ltb node z.n c, tt)))

-- where something is not admitted, nothing that follows is read
refuses : (z : Sizes) (node L : ℕ) → (Legal z → L ≤ 4096 * B z → node < z.n → ⊥) → (w : List ℕ) → wholly (points_at z node L w) ≡ false
unfolding admitted
refuses z node L f w =
    ap wholly
    (no (admitted z node L) _ none
    (is_false (admitted z node L)
    (λ e.
    let a = alls-hold (legal z ∷ leb L (4096 * B z) ∷ ltb node z.n ∷ []) e in
    f (legal-facts z a.0) (leb-true L (4096 * B z) a.1.0) (ltb-true node z.n a.1.1.0))))

-- the bytes before each number
abbrev pub n_name : List ℕ
n_name = 0x6E ∷ 0x3D ∷ []

abbrev pub k_name : List ℕ
k_name = 0x6B ∷ 0x3D ∷ []

abbrev pub d_name : List ℕ
d_name = 0x64 ∷ 0x3D ∷ []

abbrev pub r_name : List ℕ
r_name = 0x72 ∷ 0x3D ∷ []

abbrev pub node_name : List ℕ
node_name = 0x6E ∷ 0x6F ∷ 0x64 ∷ 0x65 ∷ 0x3D ∷ []

abbrev pub length_name : List ℕ
length_name = 0x6C ∷ 0x65 ∷ 0x6E ∷ 0x67 ∷ 0x74 ∷ 0x68 ∷ 0x3D ∷ []

abbrev pub sizes : ℕ → ℕ → ℕ → ℕ → Sizes
sizes n k d r = record { n = n; k = k; d = d; r = r }

abbrev from_length : Sizes → ℕ → List ℕ → Option Found
from_length z node w = line none length_name w (λ L w. points_at z node L w)

abbrev from_node : Sizes → List ℕ → Option Found
from_node z w = line none node_name w (λ node w. from_length z node w)

abbrev from_r : ℕ → ℕ → ℕ → List ℕ → Option Found
from_r n k d w = line none r_name w (λ r w. from_node (sizes n k d r) w)

abbrev from_d : ℕ → ℕ → List ℕ → Option Found
from_d n k w = line none d_name w (λ d w. from_r n k d w)

abbrev from_k : ℕ → List ℕ → Option Found
from_k n w = line none k_name w (λ k w. from_d n k w)

-- no text of such sizes
length_none : (z : Sizes) (node : ℕ) → (Legal z → node < z.n → ⊥) → (w : List ℕ) → wholly (from_length z node w) ≡ false
length_none z node f w = line-none none wholly refl (λ L w. points_at z node L w) (λ L w. refuses z node L (λ a _ c. f a c) w) length_name w

node-none : (z : Sizes) → (Legal z → ⊥) → (w : List ℕ) → wholly (from_node z w) ≡ false
node-none z f w = line-none none wholly refl (λ node w. from_length z node w) (λ node w. length_none z node (λ a _. f a) w) node_name w

r-none : (n k d : ℕ) → ((r : ℕ) → Legal (sizes n k d r) → ⊥) → (w : List ℕ) → wholly (from_r n k d w) ≡ false
r-none n k d f w = line-none none wholly refl (λ r w. from_node (sizes n k d r) w) (λ r w. node-none (sizes n k d r) (f r) w) r_name w

d-none : (n k : ℕ) → ((d r : ℕ) → Legal (sizes n k d r) → ⊥) → (w : List ℕ) → wholly (from_d n k w) ≡ false
d-none n k f w = line-none none wholly refl (λ d w. from_r n k d w) (λ d w. r-none n k d (f d) w) d_name w

k-none : (n : ℕ) → ((k d r : ℕ) → Legal (sizes n k d r) → ⊥) → (w : List ℕ) → wholly (from_k n w) ≡ false
k-none n f w = line-none none wholly refl (λ k w. from_d n k w) (λ k w. d-none n k (f k) w) k_name w

-- the line of length
length-best : (z : Sizes) → Legal z → (node : ℕ) → node < z.n → (input : List ℕ)
    → Best (λ w. wholly (from_length z node w)) input (line_on 0 (4096 * B z) length_name input (λ L input. points_on z L input))
length-best z f node h input =
    line-best none wholly refl 0 (4096 * B z) (inr (omega arith)) (omega arith) (λ L w. points_at z node L w) (λ L input. points_on z L input)
    (λ L _ b input.
    best-same (λ w. wholly (some_points none z w (data_at z node L))) (λ w. wholly (points_at z node L w)) input _
    (λ w. sym (ap wholly (yes (admitted z node L) _ none (admits z node L (legal-yes z f) b h)))) (rest-best z (legal-yes z f) node L input))
    (λ L n w. refuses z node L (λ _ b _. n (omega arith) b) w) length_name input

abbrev pub on_length : Sizes → List ℕ → ℕ
on_length z input = line_on 0 (4096 * B z) length_name input (λ L input. points_on z L input)

abbrev pub on_node : Sizes → List ℕ → ℕ
on_node z input = line_on 0 (z.n - 1) node_name input (λ node input. on_length z input)

abbrev pub on_r : ℕ → ℕ → ℕ → List ℕ → ℕ
on_r n k d input = line_on 1 (n - d) r_name input (λ r input. on_node (sizes n k d r) input)

abbrev pub on_d : ℕ → ℕ → List ℕ → ℕ
on_d n k input = line_on k (n - 1) d_name input (λ d input. on_r n k d input)

abbrev pub on_k : ℕ → List ℕ → ℕ
on_k n input = line_on 1 (n - 1) k_name input (λ k input. on_d n k input)

node-best : (z : Sizes) → Legal z → (input : List ℕ) → Best (λ w. wholly (from_node z w)) input (on_node z input)
node-best z f input =
    let few = f.few in
    let n : 1 ≤ z.n = omega (arith, f.enough, f.some-fresh) in
    line-best none wholly refl 0 (z.n - 1) (inr (omega arith)) (omega arith) (λ node w. from_length z node w) (λ node input. on_length z input)
    (λ node _ b input. length-best z f node (omega (arith, b, n)) input)
    (λ node q w. length_none z node (λ _ c. q (omega arith) (omega (arith, c))) w) node_name input

r-best : (n k d : ℕ) → n ≤ 32 → 1 ≤ k → k ≤ d → d < n → (input : List ℕ) → Best (λ w. wholly (from_r n k d w)) input (on_r n k d input)
r-best n k d few a b c input =
    line-best none wholly refl 1 (n - d) (inl (omega (arith, few))) (omega (arith, c)) (λ r w. from_node (sizes n k d r) w) (λ r input. on_node (sizes n k d r) input)
    (λ r x y input. node-best (sizes n k d r) (record { some_read = a; read-helpers = b; some-fresh = x; enough = omega (arith, y, c); few = few }) input)
    (λ r q w. node-none (sizes n k d r) (λ f. q f.some-fresh (let e = f.enough in omega (arith, e))) w) r_name input

d-best : (n k : ℕ) → n ≤ 32 → 1 ≤ k → k < n → (input : List ℕ) → Best (λ w. wholly (from_d n k w)) input (on_d n k input)
d-best n k few a c input =
    line-best none wholly refl k (n - 1) (inl (omega (arith, few))) (omega (arith, c)) (λ d w. from_r n k d w) (λ d input. on_r n k d input)
    (λ d x y input. r-best n k d few a x (omega (arith, y, c)) input)
    (λ d q w. r-none n k d (λ r f. q f.read-helpers (let e = f.enough in let s = f.some-fresh in omega (arith, e, s))) w) d_name input

k-best : (n : ℕ) → n ≤ 32 → 2 ≤ n → (input : List ℕ) → Best (λ w. wholly (from_k n w)) input (on_k n input)
k-best n few c input =
    line-best none wholly refl 1 (n - 1) (inl (omega (arith, few))) (omega (arith, c)) (λ k w. from_d n k w) (λ k input. on_d n k input)
    (λ k x y input. d-best n k few x (omega (arith, y, c)) input)
    (λ k q w. d-none n k (λ d r f. q f.some_read (let e = f.enough in let s = f.some-fresh in let h = f.read-helpers in omega (arith, e, s, h))) w) k_name input

-- a whole text is accepted
abbrev pub accepts : List ℕ → Bool
accepts w = given (read_text w)

pub text-best : (text : List ℕ) → Best accepts text (longest text)
unfolding read_text text_at longest
text-best text =
    line-best none wholly refl 2 32 (inl (omega arith)) (omega arith) (λ n w. from_k n w) (λ n input. on_k n input)
    (λ n x y input. k-best n y x input)
    (λ n q w. k-none n (λ k d r f. let e = f.enough in let s = f.some-fresh in let h = f.read-helpers in let a = f.some_read in let c = f.few in q (omega (arith, e, s, h, a)) c) w)
    n_name text
