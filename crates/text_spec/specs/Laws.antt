-- What holds of share texts: reading undoes writing and writing undoes reading, so that a share has one text; one after another they are read apart.
-- proofs/Written.antt has `text-laws : ReadLaws`.
-- Assumes nothing.
use Rattle.std.specs.Prelude.{◌≡◌, true, ◌↔◌, List, [], ◌∷◌, ◌++◌, ℕ, length, Ok}
use Rattle.std.proofs.Math.Option.{some}
use Rattle.lists.specs.Lists.{All, Bytes, over}
use Rattle.sizes.specs.Refusals.{said}
use Rattle.board_spec.specs.Calls.{text_call}
use Rattle.text_spec.specs.Texts.{ShareTold, text_of, texts_joined, writable, Found, text_at, read_text, texts_of}

-- a share of bytes that the share-as-text call can write
abbrev pub Writable : ShareTold → Type 0
Writable t = (writable t ≡ true) × Bytes t.share

pub record ReadLaws : Type 0 where
  -- the share-as-text call can write just the texts of what is writable
  pub can_write : (t : ShareTold) → (writable t ≡ true) ↔ ((output : List ℕ) × ((text_call t.sizes t.points t.length t.node t.share output).answer.refusal ≡ 0))
  -- and where it is not refused it writes that text
  pub writes-text : (t : ShareTold) (output : List ℕ) → (text_call t.sizes t.points t.length t.node t.share output).answer.refusal ≡ 0
      → text_call t.sizes t.points t.length t.node t.share output ≡ record { answer = said (Ok (length (text_of t))); output = over (text_of t) output }
  -- a text at the beginning, whatever is behind it
  pub writes_reads : (t : ShareTold) → Writable t → (behind : List ℕ) → text_at (text_of t ++ behind) ≡ some (record { told = t; behind = behind })
  pub reads-writes : (text : List ℕ) (f : Found) → text_at text ≡ some f → (text ≡ text_of f.told ++ f.behind) × Writable f.told
  -- a share has one text, and a text tells one share
  pub one-text : (t u : ShareTold) → Writable t → Writable u → text_of t ≡ text_of u → t ≡ u
  pub text-told : (text : List ℕ) (t : ShareTold) → (read_text text ≡ some t) ↔ ((text ≡ text_of t) × Writable t)
  -- any number of texts, one after another with nothing between them
  pub none-joined : texts_joined [] ≡ []
  pub texts-joined : (t : ShareTold) (ts : List ShareTold) → texts_joined (t ∷ ts) ≡ text_of t ++ texts_joined ts
  pub texts-told : (text : List ℕ) (ts : List ShareTold) → (texts_of text ≡ some ts) ↔ ((text ≡ texts_joined ts) × All Writable ts)
