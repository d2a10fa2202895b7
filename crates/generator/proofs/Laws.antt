-- The laws of specs/Laws.antt, and the generator as a loop has it.
-- Assumes nothing.
use Rattle.std.proofs.Common.{◌≡◌, ℕ, zero, suc, ◌+◌, ◌*◌, ◌/◌, ◌<◌, ◌≤◌, List, ◌∷◌, ◌++◌, length, get_or, drop, sym, refl, ap, ◌∙◌, mod-lt, suc-add, div-add-mod', zero-add, arith}
use Rattle.lists.specs.Lists.{Bytes, tabulate}
use Rattle.lists.proofs.Pieces.{fill-all, tabulate-at}
use Rattle.generator.specs.Generator.{step, top_byte, after, emitted}
use Rattle.generator.specs.Laws.{GeneratorLaws}

pub word : (state : ℕ) → step state < 4294967296
unfolding step
word state = mod-lt (state * 1664525 + 1013904223) (omega arith)

step_is : (state : ℕ) → (q : ℕ) × (state * 1664525 + 1013904223 ≡ q * 4294967296 + step state)
unfolding step
step_is state = let n = state * 1664525 + 1013904223 in (n / 4294967296, sym (div-add-mod' n 4294967296))

pub top-byte : (state : ℕ) → state < 4294967296 → top_byte state < 256
top-byte state h = let q = div-add-mod' state 16777216 in omega (arith, q, h)

bytes : (m state : ℕ) → Bytes (emitted m state)
bytes zero state = tt
bytes (suc m) state = (top-byte (step state) (word state), bytes m (step state))

long : (m state : ℕ) → length (emitted m state) ≡ m
long zero state = refl
long (suc m) state = ap suc (long m (step state))

onward : (m p state : ℕ) → emitted (m + p) state ≡ emitted m state ++ emitted p (after m state)
onward zero p state = rw (zero-add p)
onward (suc m) p state = rw (suc-add m p) (ap {B = List ℕ} (λ l. top_byte (step state) ∷ l) (onward m p (step state)))

after-onward : (m p state : ℕ) → after (m + p) state ≡ after p (after m state)
after-onward zero p state = rw (zero-add p)
after-onward (suc m) p state = rw (suc-add m p) (after-onward m p (step state))

-- ---- as a loop has it

pub after_one : (m state : ℕ) → after (m + 1) state ≡ step (after m state)
after_one m state = after-onward m 1 state

-- byte i is that of the state after i + 1 steps
abbrev pub byte_at : ℕ → ℕ → ℕ
byte_at state i = top_byte (step (after i state))

emitted-at : (m state : ℕ) → emitted m state ≡ tabulate m (byte_at state)
emitted-at zero state = refl
emitted-at (suc m) state = ap {B = List ℕ} (λ l. top_byte (step state) ∷ l) (emitted-at m (step state))

emits : (m i state : ℕ) → i < m → get_or (emitted m state) i 0 ≡ after (i + 1) state / 16777216
emits m i state h =
    ap (λ (l : List ℕ). get_or l i 0) (emitted-at m state)
    ∙ tabulate-at m (byte_at state) 0 i h
    ∙ ap top_byte (sym (after_one i state))

pub filled : (state : ℕ) (out₀ out : List ℕ) (t : ℕ) → length out₀ ≤ t → out ≡ tabulate t (byte_at state) ++ drop t out₀
    → t ≤ length out₀ → out ≡ emitted (length out₀) state
filled state out₀ out t h e k =
    let q : t ≡ length out₀ = omega (arith, h, k) in
    e ∙ fill-all (byte_at state) out₀ t h ∙ ap (λ (t : ℕ). tabulate t (byte_at state)) q ∙ sym (emitted-at (length out₀) state)

pub generator-laws : GeneratorLaws
unfolding step
generator-laws = record {
  step_is = step_is;
  word = word;
  bytes = bytes;
  long = long;
  emits = emits;
  none_first = λ state. refl;
  one_more = after_one;
  onward = onward;
  after-onward = after-onward;
  seed-0 = refl;
  seed-1 = refl;
  last-seed = refl;
}
