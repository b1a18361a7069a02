-- Steps of reading: each goes on from what is left of a line, or tells the place at which no form can go on.
use Rattle.std.specs.Prelude.{ℕ, ◌+◌, ◌==◌, Bool, false, if◌then◌else◌, List, [], ◌∷◌, take, drop, Result, Ok, Err}
use Rattle.std.specs.List.{prefix_len}
use Rattle.fields.specs.Words.{is_word_byte}

-- what is left of a line, and the place at which that begins
pub record Left : Type 0 where
  pub bytes : List ℕ
  pub place : ℕ

-- all of a line
abbrev pub whole : List ℕ → Left
whole line = record { bytes = line; place = 0 }

-- what is left after n bytes of it
abbrev pub after : ℕ → Left → Left
after n left = record { bytes = drop n left.bytes; place = left.place + n }

-- the next step, on what this one gave
infixl 10 ◌>>=◌
abbrev pub ◌>>=◌ : {A B : Type 0} → Result A ℕ → (A → Result B ℕ) → Result B ℕ
(Ok a) >>= next = next a
(Err place) >>= next = Err place

-- whether the byte b stands first
abbrev pub begins_with : ℕ → List ℕ → Bool
begins_with b [] = false
begins_with b (x ∷ xs) = x == b

-- the byte b
abbrev pub byte_at : ℕ → Left → Result Left ℕ
byte_at b left = if begins_with b left.bytes then Ok (after 1 left) else Err left.place

-- the bytes that stand first and pass
abbrev pub front : (ℕ → Bool) → Left → List ℕ
front passes left = take (prefix_len passes left.bytes) left.bytes

-- what is left after them
abbrev pub behind : (ℕ → Bool) → Left → Left
behind passes left = after (prefix_len passes left.bytes) left

-- what was read of a word that begins at this place of the line
abbrev pub read_at : {A : Type 0} → ℕ → Result A ℕ → Result A ℕ
read_at start (Ok a) = Ok a
read_at start (Err place) = Err (start + place)

-- a field that consists of such bytes, and what `of` reads of its word
abbrev pub field_at : {A : Type 0} → (ℕ → Bool) → (List ℕ → Result A ℕ) → Left → Result (A × Left) ℕ
field_at passes of left = do
  a ← read_at left.place (of (front passes left))
  Ok (a, behind passes left)

-- a field after a space
abbrev pub spaced : {A : Type 0} → (List ℕ → Result A ℕ) → Left → Result (A × Left) ℕ
spaced of left = do
  word ← byte_at 32 left
  field_at is_word_byte of word
