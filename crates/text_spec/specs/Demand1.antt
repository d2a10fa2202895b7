-- Demand 1 for the text reader and the gathering: each ends, on all input, with its result or with the first refusal whose line holds, and a refusal
-- changes no byte of the output. And what they give: the reader what was written; the gathering the file of the shares, just where there is one.
-- proofs/Demand1.antt has `demand-1 : TextCalls`.
-- Assumes nothing.
use Rattle.std.specs.Prelude.{◌≡◌, true, false, ◌↔◌, ◌⊎◌, List, [], ◌∷◌, map, ℕ, ◌*◌, ◌≤◌, ◌<◌, length, replicate, Ok, Err}
use Rattle.std.proofs.Math.Option.{none}
use Rattle.lists.specs.Tests.{different}
use Rattle.lists.specs.Lists.{All, Bytes, concat, over}
use Rattle.sizes.specs.declared.Sizes.{Sizes}
use Rattle.sizes.specs.declared.Refusal.{Refusal}
use Rattle.sizes.specs.declared.Refusal.TheVariants.{Text, Mixed, Count, Repeat, Short, Disagree}
use Rattle.sizes.specs.Sizing.{max_stripes, legal, B}
use Rattle.sizes.specs.Refusals.{said, Line, applies_in, board_order}
use Rattle.sizes.specs.Laws.{First}
use Rattle.mbcr.specs.Share.{pointed, share}
use Rattle.mbcr.specs.Read.{read_file}
use Rattle.mbcr.specs.Demand2.{Named}
use Rattle.board_spec.specs.Claims.{Claim, ◌means◌, LinesSay}
use Rattle.board_spec.specs.Calls.{file_of, file_call}
use Rattle.board_spec.specs.Demand1.{BoardEnds}
use Rattle.text_spec.specs.Texts.{ShareTold, text_of, texts_joined, read_text, texts_of}
use Rattle.text_spec.specs.Calls.{told_of, ReadOutcome, read_text_lines, read_text_call, texts_told, first_of, nodes_of, shares_of, gathered, gather_lines, gather_call}
use Rattle.text_spec.specs.Laws.{Writable}

-- one call of the reader: its lines, its output as it came, what the text tells, and its outcome
pub record ReadEnds (lines : List Line) (output : List ℕ) (t : ShareTold) (o : ReadOutcome) : Type 0 where
  -- some line is the first that holds, or none holds
  pub one : ((x : Refusal) × First board_order lines x) ⊎ All (λ x. applies_in lines x ≡ false) board_order
  -- "The first that applies is given", nothing is told but zeros, and the output is as it came
  pub refuses : (x : Refusal) → First board_order lines x → o ≡ record {
    answer = said (Err x);
    sizes = record { n = 0; k = 0; d = 0; r = 0 };
    points = replicate 32 0;
    node = 0;
    length = 0;
    output = output;
  }
  -- else sizes, points, board and length are told, the share's bytes are written and their number answered, and output beyond them stays
  pub works : All (λ x. applies_in lines x ≡ false) board_order
      → (o ≡ record { answer = said (Ok (length t.share)); sizes = t.sizes; points = t.points; node = t.node; length = t.length; output = over t.share output })
      × (length t.share ≤ length output)

-- the text is that of no writable share
abbrev pub read_text_claims : List ℕ → List ℕ → List Claim
read_text_claims text output =
    Text means ((t : ShareTold) → Writable t → text ≡ text_of t → ⊥)
    ∷ Short means (length output < length (told_of (read_text text)).share)
    ∷ []

-- the same sizes, points and length
abbrev pub Like : ShareTold → ShareTold → Type 0
Like t u = (t.sizes ≡ u.sizes) × (t.points ≡ u.points) × (t.length ≡ u.length)

-- the slice is no texts of writable shares, one after another
abbrev pub gather_claims : List ℕ → List ℕ → List Claim
gather_claims text output =
    let ts = texts_told (texts_of text) in
    Text means ((us : List ShareTold) → All Writable us → text ≡ texts_joined us → ⊥)
    ∷ Mixed means (All (Like (first_of ts)) ts → ⊥)
    ∷ Count means ((1 ≤ length ts) × (length ts ≡ (first_of ts).sizes.k) → ⊥)
    ∷ Repeat means (different (nodes_of ts) ≡ false)
    ∷ Short means (length output < (first_of ts).length)
    ∷ Disagree means (gathered ts ≡ none)
    ∷ []

-- the same of texts that were written, one after another: each line by what was written, however many they are
abbrev pub written_claims : ShareTold → List ShareTold → List ℕ → List Claim
written_claims t us output =
    let nodes = map (λ (u : ShareTold). u.node) (t ∷ us) in
    Text means ((vs : List ShareTold) → All Writable vs → texts_joined (t ∷ us) ≡ texts_joined vs → ⊥)
    ∷ Mixed means (All (Like t) (t ∷ us) → ⊥)
    ∷ Count means ((1 ≤ length (t ∷ us)) × (length (t ∷ us) ≡ t.sizes.k) → ⊥)
    ∷ Repeat means (different nodes ≡ false)
    ∷ Short means (length output < t.length)
    ∷ Disagree means (read_file t.sizes t.points t.length nodes (concat (map (λ (u : ShareTold). u.share) (t ∷ us))) ≡ none)
    ∷ []

-- what the share-as-text call tells of board i and a file
abbrev pub share_of : Sizes → List ℕ → List ℕ → ℕ → ShareTold
share_of z xs file i = record { sizes = z; points = xs; length = length file; node = i; share = share z xs file i }

pub record TextCalls : Type 0 where
  -- the lines of each call say this, and it has no others
  pub read-lines : (text output : List ℕ) → LinesSay (read_text_lines text output) (read_text_claims text output)
  pub gather-lines : (text output : List ℕ) → LinesSay (gather_lines text output) (gather_claims text output)
  pub gather-says : (t : ShareTold) (us : List ShareTold) (output : List ℕ) → All Writable (t ∷ us)
      → LinesSay (gather_lines (texts_joined (t ∷ us)) output) (written_claims t us output)
  pub read-ends : (text output : List ℕ) → ReadEnds (read_text_lines text output) output (told_of (read_text text)) (read_text_call text output)
  pub gather-ends : (text output : List ℕ) → BoardEnds (gather_lines text output) output (file_of (gathered (texts_told (texts_of text)))) (gather_call text output)
  -- a text that was written tells what it was written of
  pub reader-gives : (t : ShareTold) (output : List ℕ) → Writable t → length t.share ≤ length output
      → read_text_call (text_of t) output
      ≡ record { answer = said (Ok (length t.share)); sizes = t.sizes; points = t.points; node = t.node; length = t.length; output = over t.share output }
  -- texts that do not differ are gathered as "a file from k shares" is made of what they tell
  pub gather-is-file : (t : ShareTold) (ts : List ShareTold) (output : List ℕ) → All Writable (t ∷ ts) → All (Like t) ts
      → gather_call (texts_joined (t ∷ ts)) output ≡ file_call t.sizes t.points t.length (nodes_of (t ∷ ts)) (shares_of (t ∷ ts)) output
  -- the texts of k boards' shares of a file, in any order, give the file and its length
  pub gather-gives : (z : Sizes) (xs file boards output : List ℕ) → legal z ≡ true → pointed z xs ≡ true → Bytes file → length file ≤ max_stripes * B z
      → Named z z.k boards → length file ≤ length output
      → gather_call (texts_joined (map (share_of z xs file) boards)) output ≡ record { answer = said (Ok (length file)); output = over file output }
  -- where no line but DISAGREE holds, it gives f exactly when f has the length told and the shares told, and DISAGREE exactly when there is no such file
  pub gather-exact : (t : ShareTold) (ts : List ShareTold) (output : List ℕ) → All Writable (t ∷ ts)
      → All (λ x. (x ≡ Disagree) ⊎ (applies_in (gather_lines (texts_joined (t ∷ ts)) output) x ≡ false)) board_order
      → ((file : List ℕ) → length file ≡ t.length → Bytes file
      → (gather_call (texts_joined (t ∷ ts)) output ≡ record { answer = said (Ok t.length); output = over file output })
      ↔ All (λ u. u.share ≡ share t.sizes t.points file u.node) (t ∷ ts))
      × ((gather_call (texts_joined (t ∷ ts)) output ≡ record { answer = said (Err Disagree); output = output })
      ↔ ((file : List ℕ) → length file ≡ t.length → Bytes file → All (λ u. u.share ≡ share t.sizes t.points file u.node) (t ∷ ts) → ⊥))
