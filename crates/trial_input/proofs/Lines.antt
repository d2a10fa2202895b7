-- The eight lines, by what is told of them.
-- Assumes nothing.
use mathlib.Core.Path.{◌≡◌, refl, sym, ap, fun_ext, ◌∙◌}
use mathlib.Core.Bool.{Bool, true, false}
use mathlib.Core.Logic.{⊎_elim}
use mathlib.Core.Option.{Option, none}
use Rattle.std.specs.Prelude as rust
use Rattle.std.specs.Prelude.{option_and_then}
use mathlib.Core.List.{List, [], ◌∷◌}
use Prim.Native.Nat.{ℕ, ◌<◌}
use native.Mathlib.Omega.{arith}
use lib.ListN.{drop}
use Rattle.lists.specs.Tests.{pick}
use Rattle.number_lines.specs.Lines.{line}
use Rattle.number_lines.specs.Steps.{capped}
use Rattle.number_lines.proofs.Capped.{capped-like, capped-low}
use Rattle.line_places.specs.Steps.{most, line_at}
use Rattle.line_places.proofs.Places.{line-by}
use Rattle.trial_spec.specs.Trial.{Load, eight_lines, taken, loaded}
use Rattle.trial_limits.specs.Steps.{numbers_in}
use Rattle.trial_input.specs.declared.Line.{Line}
use Rattle.trial_input.specs.declared.Four.{Four}
use Rattle.trial_input.specs.declared.Eight.{Eight}
use Rattle.trial_input.specs.Steps.{line_of, with_r, from_d, from_k, from_n, with_calls, from_length, from_seed, from_C, from_sizes, numbers_at}
use Rattle.trial_limits.proofs.SetUp.{Small, small, ends, ends-refused}

-- ---- numbers that are held

abbrev held : ℕ → ℕ
held v = capped most v

abbrev load : ℕ → ℕ → ℕ → ℕ → ℕ → ℕ → ℕ → ℕ → Load
load n k d r C seed L calls = record { sizes = record { n = n; k = k; d = d; r = r }; capacity = C; seed = seed; length = L; calls = calls }

abbrev held_load : Load → Load
held_load l =
    load (held l.sizes.n) (held l.sizes.k) (held l.sizes.d) (held l.sizes.r) (held l.capacity) (held l.seed) (held l.length) (held l.calls)

-- a number that is held below the bound is the number
same_number : (v : ℕ) → held v < most → held v ≡ v
same_number v h = ⊎_elim (λ e. e) (λ e. absurd (omega (arith, h, e.1))) (capped-like most v)

low : (v : ℕ) → v < most → held v < most
low v h = omega (arith, capped-low most v h)

same_load : (l : Load) → Small (held_load l) → held_load l ≡ l
same_load l s =
    let z = l.sizes in
    let n = same_number z.n s.n in
    let k = same_number z.k s.k in
    let d = same_number z.d s.d in
    let r = same_number z.r s.r in
    let C = same_number l.capacity s.capacity in
    let seed = same_number l.seed s.seed in
    let L = same_number l.length s.length in
    let calls = same_number l.calls s.calls in
    ap (λ (x : ℕ). load x (held z.k) (held z.d) (held z.r) (held l.capacity) (held l.seed) (held l.length) (held l.calls)) n
    ∙ ap (λ (x : ℕ). load z.n x (held z.d) (held z.r) (held l.capacity) (held l.seed) (held l.length) (held l.calls)) k
    ∙ ap (λ (x : ℕ). load z.n z.k x (held z.r) (held l.capacity) (held l.seed) (held l.length) (held l.calls)) d
    ∙ ap (λ (x : ℕ). load z.n z.k z.d x (held l.capacity) (held l.seed) (held l.length) (held l.calls)) r
    ∙ ap (λ (x : ℕ). load z.n z.k z.d z.r x (held l.seed) (held l.length) (held l.calls)) C
    ∙ ap (λ (x : ℕ). load z.n z.k z.d z.r l.capacity x (held l.length) (held l.calls)) seed
    ∙ ap (λ (x : ℕ). load z.n z.k z.d z.r l.capacity l.seed x (held l.calls)) L
    ∙ ap (λ (x : ℕ). load z.n z.k z.d z.r l.capacity l.seed l.length x) calls

-- numbers that are held change nothing
held_same : (l : Load) (behind : List ℕ) → ends (held_load l) behind ≡ ends l behind
held_same l behind = by (taken (held_load l)) refl (taken l) refl
  where
    through : Small (held_load l) → ends (held_load l) behind ≡ ends l behind
    through s = ap (λ (l : Load). ends l behind) (same_load l s)

    by : (t : Bool) → taken (held_load l) ≡ t → (u : Bool) → taken l ≡ u → ends (held_load l) behind ≡ ends l behind
    by true e u f = through (small (held_load l) e)
    by false e true f =
        let s = small l f in
        through (record {
          n = low _ s.n;
          k = low _ s.k;
          d = low _ s.d;
          r = low _ s.r;
          capacity = low _ s.capacity;
          seed = low _ s.seed;
          length = low _ s.length;
          calls = low _ s.calls;
        })
    by false e false f = ends-refused (held_load l) behind e ∙ sym (ends-refused l behind f)

-- ---- the lines one after another

abbrev n= : List ℕ
n= = 0x6E ∷ 0x3D ∷ []

abbrev k= : List ℕ
k= = 0x6B ∷ 0x3D ∷ []

abbrev d= : List ℕ
d= = 0x64 ∷ 0x3D ∷ []

abbrev r= : List ℕ
r= = 0x72 ∷ 0x3D ∷ []

abbrev C= : List ℕ
C= = 0x43 ∷ 0x3D ∷ []

abbrev seed= : List ℕ
seed= = 0x73 ∷ 0x65 ∷ 0x65 ∷ 0x64 ∷ 0x3D ∷ []

abbrev length= : List ℕ
length= = 0x6C ∷ 0x65 ∷ 0x6E ∷ 0x67 ∷ 0x74 ∷ 0x68 ∷ 0x3D ∷ []

abbrev calls= : List ℕ
calls= = 0x63 ∷ 0x61 ∷ 0x6C ∷ 0x6C ∷ 0x73 ∷ 0x3D ∷ []

-- what is behind each line, with the numbers so far as they are held
behind7 : ℕ → ℕ → ℕ → ℕ → ℕ → ℕ → ℕ → List ℕ → Option Load
behind7 n k d r C seed L input = line none calls= input (λ calls rest. ends (load n k d r C seed L (held calls)) rest)

behind6 : ℕ → ℕ → ℕ → ℕ → ℕ → ℕ → List ℕ → Option Load
behind6 n k d r C seed input = line none length= input (λ L rest. behind7 n k d r C seed (held L) rest)

behind5 : ℕ → ℕ → ℕ → ℕ → ℕ → List ℕ → Option Load
behind5 n k d r C input = line none seed= input (λ seed rest. behind6 n k d r C (held seed) rest)

behind4 : ℕ → ℕ → ℕ → ℕ → List ℕ → Option Load
behind4 n k d r input = line none C= input (λ C rest. behind5 n k d r (held C) rest)

behind3 : ℕ → ℕ → ℕ → List ℕ → Option Load
behind3 n k d input = line none r= input (λ r rest. behind4 n k d (held r) rest)

behind2 : ℕ → ℕ → List ℕ → Option Load
behind2 n k input = line none d= input (λ d rest. behind3 n k (held d) rest)

behind1 : ℕ → List ℕ → Option Load
behind1 n input = line none k= input (λ k rest. behind2 n (held k) rest)

-- what is done with what was told, where it was
abbrev pub through : {A : Type 0} → rust.Option A → (A → Option Load) → Option Load
through rust.None f = none
through (rust.Some a) f = f a

module _ (text : List ℕ) where
  abbrev pub fin : Eight → Option Load
  fin e = ends (numbers_in e.numbers) (drop e.next text)

  -- a line, by what is done with it and with what is behind it, where nothing is done else
  level : {X : Type 0} (T : rust.Option X → Option Load) (F : Line → rust.Option X) (at : ℕ) (name : List ℕ) (K : ℕ → List ℕ → Option Load)
      → none ≡ T rust.None → ((l : Line) → K l.value (drop l.next text) ≡ T (F l))
      → line none name (drop at text) (λ v rest. K (held v) rest) ≡ T (option_and_then F (line_of text at name))
  level T F at name K e f = line-by text at name K ∙ by (line_at text at name).ok
    where
      by : (b : Bool) → let t = line_at text at name in
          pick b (K t.value (drop t.next text)) none ≡ T (option_and_then F (pick b (rust.Some (record { value = t.value; next = t.next })) rust.None))
      by true = f (record { value = (line_at text at name).value; next = (line_at text at name).next })
      by false = e

  -- from the numbers on
  abbrev last : rust.Option Eight → Option Load
  last o = through o fin

  abbrev middle : rust.Option Four → Option Load
  middle o = last (option_and_then (from_sizes text) o)

  pub loaded-by : loaded text ≡ through (numbers_at text) fin
  unfolding loaded behind1 behind2 behind3 behind4 behind5 behind6 behind7
  loaded-by =
      ap (λ (P : Load → List ℕ → Option Load). eight_lines none text P) (sym (fun_ext (λ l. fun_ext (λ rest. held_same l rest))))
      ∙ level middle (from_n text) 0 n= behind1 refl (λ n.
      level middle (from_k text n) n.next k= (behind2 n.value) refl (λ k.
      level middle (from_d text n k) k.next d= (behind3 n.value k.value) refl (λ d.
      level middle (with_r text n k d) d.next r= (behind4 n.value k.value d.value) refl (λ r.
      let four : Four = record { sizes = record { n = n.value; k = k.value; d = d.value; r = r.value }; next = r.next } in
      level last (from_C text four) r.next C= (behind5 n.value k.value d.value r.value) refl (λ C.
      level last (from_seed text four C) C.next seed= (behind6 n.value k.value d.value r.value C.value) refl (λ seed.
      level last (from_length text four C seed) seed.next length= (behind7 n.value k.value d.value r.value C.value seed.value) refl (λ L.
      level last (with_calls text four C seed L) L.next calls= (λ calls rest. ends (load n.value k.value d.value r.value C.value seed.value L.value calls) rest) refl
      (λ calls. refl))))))))
