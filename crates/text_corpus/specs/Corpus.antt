-- A corpus of texts, and that of their answers.
use Rattle.std.specs.Prelude.{◌≡◌, ℕ, List, [], ◌∷◌, ◌++◌, length, map, codes}
use Rattle.std.specs.Fmt.{decimal}
use Rattle.std.specs.List.{flat_map}
use Rattle.text_call.specs.Answer.{any_answer}

-- a text, or an answer, under a name
pub record Entry : Type 0 where
  pub name : List ℕ
  pub text : List ℕ

-- the first line of an entry, by its name and the length of its text
abbrev pub header : List ℕ → ℕ → List ℕ
header name size = codes "= " ++ (name ++ 32 ∷ decimal size)

-- an entry: its first line, its text, and byte 10
abbrev pub entry_bytes : Entry → List ℕ
entry_bytes e = header e.name (length e.text) ++ 10 ∷ (e.text ++ 10 ∷ [])

-- a corpus: its entries, one behind the other
abbrev pub corpus_bytes : List Entry → List ℕ
corpus_bytes es = flat_map entry_bytes es

-- the entry with the answer in place of the text; one that is too long is refused as a whole
abbrev pub answered : Entry → Entry
answered e = record { name = e.name; text = any_answer e.text }

-- what was written is the answers to the texts of a corpus, in order, as far as it was read: the rest is left
pub record Answers (corpus rest written : List ℕ) : Type 0 where
  pub entries : List Entry
  pub are_read : corpus ≡ corpus_bytes entries ++ rest
  pub are_answered : written ≡ corpus_bytes (map answered entries)
