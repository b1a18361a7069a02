-- The tokens of a line.
use Rattle.std.specs.Prelude.{◌==◌, ℕ, List, if◌then◌else◌, Result, Ok, Err}
use Rattle.std.specs.List.{prefix_len}
use Rattle.fields.specs.Words.{is_word_byte}
use Rattle.form_reader.specs.declared.lexing.Lexer.{Lexer}
use Rattle.form_reader.specs.declared.lexing.Stuck.{Stuck}
use Rattle.form_reader.specs.declared.lexing.Token.{Token}
use Rattle.form_reader.specs.declared.lexing.Token.TheVariants.{Open, Close, Space, Word, Other}
use Rattle.form_reader.specs.Steps.{Left, after, begins_with, front, behind}

-- a token without where it lies in memory
pub data Lexeme : Type 0 where
  opening : Lexeme
  closing : Lexeme
  gap : Lexeme
  -- its bytes, and the place of the first
  word : List ℕ → ℕ → Lexeme
  other : Lexeme

-- the token itself
abbrev pub lexeme_of : Token → Lexeme
lexeme_of Open = opening
lexeme_of Close = closing
lexeme_of Space = gap
lexeme_of (Word w) = word w.bytes.now w.place
lexeme_of Other = other

-- what a lexer has left
abbrev pub left_of : Lexer → Left
left_of lexer = record { bytes = lexer.rest.now; place = lexer.place }

-- the word that stands first, and what is left after it
abbrev pub word_at : Left → Lexeme × Left
word_at left =
    if prefix_len is_word_byte left.bytes == 0 then (other, left)
    else (word (front is_word_byte left) left.place, behind is_word_byte left)

-- the token that stands first, and what is left after it
abbrev pub token_at : Left → Lexeme × Left
token_at left =
    if begins_with 40 left.bytes then (opening, after 1 left)
    else if begins_with 41 left.bytes then (closing, after 1 left)
    else if begins_with 32 left.bytes then (gap, after 1 left)
    else word_at left

-- what a function returned, as a reading, its value seen by view
abbrev pub told : {X Y : Type 0} → (X → Y) → Result X Stuck → Result Y ℕ
told view (Ok x) = Ok (view x)
told view (Err stuck) = Err stuck.place
