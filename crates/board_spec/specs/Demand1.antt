-- Demand 1 at board level: every call ends, on all input, with its result or with the first refusal whose line holds, and a refusal changes
-- no byte of the output. And what the bytes written are. proofs/Demand1.antt has `demand-1 : BoardCalls`.
-- Assumes nothing.
use Rattle.std.specs.Prelude.{◌≡◌, true, false, ◌≢◌, ◌↔◌, ◌⊎◌, List, [], ◌∷◌, ◌++◌, ℕ, ◌+◌, ◌*◌, ◌-◌, ◌≤◌, ◌<◌, ltb, length, get_or, take, Ok, Err}
use Rattle.std.proofs.Math.Option.{none}
use Rattle.lists.specs.Tests.{pick, below, different}
use Rattle.lists.specs.Lists.{All, Bytes, concat, joined, over}
use Rattle.sizes.specs.declared.Sizes.{Sizes}
use Rattle.sizes.specs.declared.Refusal.{Refusal}
use Rattle.sizes.specs.declared.Refusal.TheVariants.{Size, Area, Long, Count, Node, Repeat, Short, Disagree}
use Rattle.sizes.specs.Refusals.{said, Line, applies_in, board_order}
use Rattle.sizes.specs.Laws.{First}
use Rattle.mbcr.specs.Share.{point, standard, pointed, share, shares}
use Rattle.mbcr.specs.Rebuild.{helper_packet, exchange_packet, finished_share}
use Rattle.mbcr.specs.Read.{read_file}
use Rattle.mbcr.specs.Demand2.{Named}
use Rattle.sizes.specs.Sizing.{max_stripes, legal, α, B, stripes}
use Rattle.board_spec.specs.Claims.{Claim, ◌means◌, LinesSay}
use Rattle.board_spec.specs.Text.{decimal, hex_pair, text_line, points_line, share_text}
use Rattle.board_spec.specs.Calls.{BoardOutcome, file_of, share_lines, share_call, file_lines, file_call, helper_lines, helper_call}
use Rattle.board_spec.specs.Calls.{exchange_lines, exchange_call, finished_lines, finished_call, text_lines, text_call}

-- one call: its lines, its output as it came, the bytes that it writes where it does its work, and its outcome
pub record BoardEnds (lines : List Line) (output bytes : List ℕ) (o : BoardOutcome) : Type 0 where
  -- some line is the first that holds, or none holds
  pub one : ((x : Refusal) × First board_order lines x) ⊎ All (λ x. applies_in lines x ≡ false) board_order
  -- "The first that applies is given", and all is as it came
  pub refuses : (x : Refusal) → First board_order lines x → o ≡ record { answer = said (Err x); output = output }
  -- "otherwise the call does its work": so many bytes are answered, they are written, and output beyond them stays
  pub works : All (λ x. applies_in lines x ≡ false) board_order
      → (o ≡ record { answer = said (Ok (length bytes)); output = over bytes output }) × (length bytes ≤ length output)

-- what the lines of each call say
module _ (z : Sizes) (xs : List ℕ) where
  abbrev size_claim : Claim
  size_claim = Size means ((legal z ≡ false) ⊎ (pointed z xs ≡ false))

  abbrev pub share_claims : ℕ → List ℕ → List ℕ → List Claim
  share_claims node file output =
      size_claim
      ∷ Long means (max_stripes * B z < length file)
      ∷ Node means (below z.n (node ∷ []) ≡ false)
      ∷ Short means (length output < stripes z (length file) * α z)
      ∷ []

  abbrev pub file_claims : ℕ → List ℕ → List ℕ → List ℕ → List Claim
  file_claims L boards held output =
      size_claim
      ∷ Long means (max_stripes * B z < L)
      ∷ Count means (length boards ≢ z.k)
      ∷ Node means (below z.n boards ≡ false)
      ∷ Repeat means (different boards ≡ false)
      ∷ Area means (length held ≢ z.k * (stripes z L * α z))
      ∷ Short means (length output < L)
      ∷ Disagree means (read_file z xs L boards held ≡ none)
      ∷ []

  abbrev pub helper_claims : ℕ → ℕ → ℕ → List ℕ → List ℕ → List Claim
  helper_claims L helper receiver held output =
      size_claim
      ∷ Long means (max_stripes * B z < L)
      ∷ Node means (below z.n (helper ∷ receiver ∷ []) ≡ false)
      ∷ Repeat means (different (helper ∷ receiver ∷ []) ≡ false)
      ∷ Area means (length held ≢ stripes z L * α z)
      ∷ Short means (length output < 2 * stripes z L)
      ∷ []

  abbrev pub exchange_claims : ℕ → ℕ → List ℕ → List ℕ → ℕ → List ℕ → List Claim
  exchange_claims L board helpers packets receiver output =
      size_claim
      ∷ Long means (max_stripes * B z < L)
      ∷ Count means (length helpers ≢ z.d)
      ∷ Node means (below z.n (board ∷ receiver ∷ helpers) ≡ false)
      ∷ Repeat means (different (board ∷ receiver ∷ helpers) ≡ false)
      ∷ Area means (length packets ≢ z.d * (2 * stripes z L))
      ∷ Short means (length output < stripes z L)
      ∷ []

  abbrev pub finished_claims : ℕ → ℕ → List ℕ → List ℕ → List ℕ → List ℕ → List ℕ → List Claim
  finished_claims L board helpers packets partners exchanges output =
      size_claim
      ∷ Long means (max_stripes * B z < L)
      ∷ Count means ((length helpers ≡ z.d) × (length partners ≡ z.r - 1) → ⊥)
      ∷ Node means (below z.n (helpers ++ partners ++ (board ∷ [])) ≡ false)
      ∷ Repeat means (different (helpers ++ partners ++ (board ∷ [])) ≡ false)
      ∷ Area means ((length packets ≡ z.d * (2 * stripes z L)) × (length exchanges ≡ (z.r - 1) * stripes z L) → ⊥)
      ∷ Short means (length output < stripes z L * α z)
      ∷ []

  abbrev pub text_claims : ℕ → ℕ → List ℕ → List ℕ → List Claim
  text_claims L node held output =
      size_claim
      ∷ Long means (max_stripes * B z < L)
      ∷ Node means (below z.n (node ∷ []) ≡ false)
      ∷ Area means (length held ≢ stripes z L * α z)
      ∷ Short means (length output < length (share_text z xs L node held))
      ∷ []

pub record BoardCalls : Type 0 where
  -- the lines of each call say this, and it has no others
  pub share-lines : (z : Sizes) (xs : List ℕ) (node : ℕ) (file output : List ℕ)
      → LinesSay (share_lines z xs node file output) (share_claims z xs node file output)
  pub file-lines : (z : Sizes) (xs : List ℕ) (L : ℕ) (boards held output : List ℕ)
      → LinesSay (file_lines z xs L boards held output) (file_claims z xs L boards held output)
  pub helper-lines : (z : Sizes) (xs : List ℕ) (L helper receiver : ℕ) (held output : List ℕ)
      → LinesSay (helper_lines z xs L helper receiver held output) (helper_claims z xs L helper receiver held output)
  pub exchange-lines : (z : Sizes) (xs : List ℕ) (L board : ℕ) (helpers packets : List ℕ) (receiver : ℕ) (output : List ℕ)
      → LinesSay (exchange_lines z xs L board helpers packets receiver output) (exchange_claims z xs L board helpers packets receiver output)
  pub finished-lines : (z : Sizes) (xs : List ℕ) (L board : ℕ) (helpers packets partners exchanges output : List ℕ)
      → LinesSay (finished_lines z xs L board helpers packets partners exchanges output) (finished_claims z xs L board helpers packets partners exchanges output)
  pub text-lines : (z : Sizes) (xs : List ℕ) (L node : ℕ) (held output : List ℕ)
      → LinesSay (text_lines z xs L node held output) (text_claims z xs L node held output)
  pub share-ends : (z : Sizes) (xs : List ℕ) (node : ℕ) (file output : List ℕ)
      → BoardEnds (share_lines z xs node file output) output (share z xs file node) (share_call z xs node file output)
  pub file-ends : (z : Sizes) (xs : List ℕ) (L : ℕ) (boards held output : List ℕ)
      → BoardEnds (file_lines z xs L boards held output) output (file_of (read_file z xs L boards held)) (file_call z xs L boards held output)
  pub helper-ends : (z : Sizes) (xs : List ℕ) (L helper receiver : ℕ) (held output : List ℕ)
      → BoardEnds (helper_lines z xs L helper receiver held output) output (helper_packet z xs (stripes z L) helper receiver held) (helper_call z xs L helper receiver held output)
  pub exchange-ends : (z : Sizes) (xs : List ℕ) (L board : ℕ) (helpers packets : List ℕ) (receiver : ℕ) (output : List ℕ)
      → BoardEnds (exchange_lines z xs L board helpers packets receiver output) output (exchange_packet z xs (stripes z L) helpers packets receiver)
      (exchange_call z xs L board helpers packets receiver output)
  pub finished-ends : (z : Sizes) (xs : List ℕ) (L board : ℕ) (helpers packets partners exchanges output : List ℕ)
      → BoardEnds (finished_lines z xs L board helpers packets partners exchanges output) output (finished_share z xs (stripes z L) board helpers packets partners exchanges)
      (finished_call z xs L board helpers packets partners exchanges output)
  pub text-ends : (z : Sizes) (xs : List ℕ) (L node : ℕ) (held output : List ℕ)
      → BoardEnds (text_lines z xs L node held output) output (share_text z xs L node held) (text_call z xs L node held output)
  -- "From k different boards' shares the reader gives the file they encode"
  pub reader-gives : (z : Sizes) (xs file boards output : List ℕ) → legal z ≡ true → pointed z xs ≡ true → Bytes file → length file ≤ max_stripes * B z
      → Named z z.k boards → length file ≤ length output
      → file_call z xs (length file) boards (shares z xs file boards) output ≡ record { answer = said (Ok (length file)); output = over file output }
  -- "a file from k shares": where no line but DISAGREE holds, it gives f exactly when f has length L and these shares,
  -- and DISAGREE exactly when there is no such file
  pub file-exact : (z : Sizes) (xs : List ℕ) (L : ℕ) (boards held output : List ℕ) → Bytes held
      → All (λ x. (x ≡ Disagree) ⊎ (applies_in (file_lines z xs L boards held output) x ≡ false)) board_order
      → ((file : List ℕ) → length file ≡ L → Bytes file
      → (file_call z xs L boards held output ≡ record { answer = said (Ok L); output = over file output }) ↔ (shares z xs file boards ≡ held))
      × ((file_call z xs L boards held output ≡ record { answer = said (Err Disagree); output = output })
      ↔ ((file : List ℕ) → length file ≡ L → Bytes file → shares z xs file boards ≡ held → ⊥))

-- the number that decimal digits spell, after the number v
abbrev pub value : List ℕ → ℕ → ℕ
value [] v = v
value (c ∷ l) v = value l (10 * v + (c - 0x30))

-- the number that a hexadecimal digit spells
abbrev pub hex_value : ℕ → ℕ
hex_value c = pick (ltb c 0x3A) (c - 0x30) (c - 0x57)

-- "decimals with no leading zero", "lower-case hexadecimal pairs"
pub record TextLaws : Type 0 where
  pub decimal-value : (x : ℕ) → value (decimal x) 0 ≡ x
  pub decimal-digits : (x : ℕ) → All (λ c. (0x30 ≤ c) × (c ≤ 0x39)) (decimal x)
  pub decimal-first : (x : ℕ) → 1 ≤ x → 0x31 ≤ get_or (decimal x) 0 0
  pub decimal-zero : decimal 0 ≡ 0x30 ∷ []
  -- a name, =, a value and byte 0A
  pub line-is : (name value : List ℕ) → text_line name value ≡ concat (name ∷ (0x3D ∷ []) ∷ value ∷ (0x0A ∷ []) ∷ [])
  -- "Seven lines, each ended by byte 0A: n, k, d, r, node, length .., then data", and points= after length= (request A.9): for all numbers
  pub text-is : (z : Sizes) (xs : List ℕ) (L node : ℕ) (share : List ℕ) → share_text z xs L node share ≡ concat
      (text_line (0x6E ∷ []) (decimal z.n)
      ∷ text_line (0x6B ∷ []) (decimal z.k)
      ∷ text_line (0x64 ∷ []) (decimal z.d)
      ∷ text_line (0x72 ∷ []) (decimal z.r)
      ∷ text_line (0x6E ∷ 0x6F ∷ 0x64 ∷ 0x65 ∷ []) (decimal node)
      ∷ text_line (0x6C ∷ 0x65 ∷ 0x6E ∷ 0x67 ∷ 0x74 ∷ 0x68 ∷ []) (decimal L)
      ∷ points_line z xs
      ∷ text_line (0x64 ∷ 0x61 ∷ 0x74 ∷ 0x61 ∷ []) (joined hex_pair share)
      ∷ [])
  pub hex-length : (b : ℕ) → length (hex_pair b) ≡ 2
  pub hex-value : (b : ℕ) → 16 * hex_value (get_or (hex_pair b) 0 0) + hex_value (get_or (hex_pair b) 1 0) ≡ b
  pub hex-digits : (b : ℕ) → b < 256 → All (λ c. ((0x30 ≤ c) × (c ≤ 0x39)) ⊎ ((0x61 ≤ c) × (c ≤ 0x66))) (hex_pair b)
  -- request A.9: no line where each board has its number for a point, and one line where some board has not
  pub points-unsaid : (z : Sizes) (xs : List ℕ) → z.n ≤ length xs → ((i : ℕ) → i < z.n → point xs i ≡ i) → points_line z xs ≡ []
  pub points-said : (z : Sizes) (xs : List ℕ) (i : ℕ) → i < z.n → point xs i ≢ i
      → points_line z xs ≡ text_line (0x70 ∷ 0x6F ∷ 0x69 ∷ 0x6E ∷ 0x74 ∷ 0x73 ∷ []) (joined hex_pair (take z.n xs))
  pub standard-unsaid : (z : Sizes) → legal z ≡ true → points_line z (standard z) ≡ []
