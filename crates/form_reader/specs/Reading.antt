-- The forms that are read, one after the other, and the form that a line is read as.
use Rattle.std.specs.Prelude.{ℕ, ◌||◌, ◌==◌, max, Bool, if◌then◌else◌, List, length, codes, Result, Ok, Err}
use Rattle.forms.specs.Forms.{Form, not_a_number, infinity, signed_zero, term, mark, back, set, reopen, ask, ask_named}
use Rattle.fields.specs.Words.{is_word_byte, is_lowercase_hex}
use Rattle.fields.specs.Checking.{keyword_of, sign_of, natural_of, integer_of, floor_of, run_of, limbs_of}
use Rattle.form_reader.specs.Steps.{Left, whole, ◌>>=◌, byte_at, field_at, spaced}

-- a bracket, and the keyword of a form
abbrev pub named : List ℕ → Left → Result Left ℕ
named keyword left = do
  word ← byte_at 40 left
  read ← field_at is_word_byte (keyword_of keyword) word
  Ok read.1

-- a lowercase hexadecimal digit of a limb, or the space between two limbs
abbrev pub is_limb_byte : ℕ → Bool
is_limb_byte b = is_lowercase_hex b || (b == 32)

-- limbs in brackets, after a space
abbrev pub spaced_limbs : Left → Result (List ℕ × Left) ℕ
spaced_limbs left = do
  bracket ← byte_at 32 left
  list ← byte_at 40 bracket
  limbs ← field_at is_limb_byte limbs_of list
  rest ← byte_at 41 limbs.1
  Ok (limbs.0, rest)

-- the end of the line
abbrev pub end_at : Left → Result (Unit {0}) ℕ
end_at rest = if length rest.bytes == 0 then Ok tt else Err rest.place

-- the bracket that ends a form, and the line's end
abbrev pub closing_at : Left → Result (Unit {0}) ℕ
closing_at left = byte_at 41 left >>= end_at

-- ---- the forms
-- (nan)
unfoldable pub not_a_number_at : Left → Result Form ℕ
not_a_number_at line = do
  rest ← named (codes "nan") line
  end ← closing_at rest
  Ok not_a_number

-- (inf S)
unfoldable pub infinity_at : Left → Result Form ℕ
infinity_at line = do
  rest ← named (codes "inf") line
  negative ← spaced sign_of rest
  end ← closing_at negative.1
  Ok (infinity negative.0)

-- (zero S)
unfoldable pub zero_at : Left → Result Form ℕ
zero_at line = do
  rest ← named (codes "zero") line
  negative ← spaced sign_of rest
  end ← closing_at negative.1
  Ok (signed_zero negative.0)

-- (term S E P (L L))
unfoldable pub term_at : Left → Result Form ℕ
term_at line = do
  rest ← named (codes "term") line
  negative ← spaced sign_of rest
  exponent ← spaced integer_of negative.1
  precision ← spaced natural_of exponent.1
  limbs ← spaced_limbs precision.1
  end ← closing_at limbs.1
  Ok (term negative.0 exponent.0 precision.0 limbs.0)

-- (mark I M)
unfoldable pub mark_at : Left → Result Form ℕ
mark_at line = do
  rest ← named (codes "mark") line
  place ← spaced natural_of rest
  letter ← spaced run_of place.1
  end ← closing_at letter.1
  Ok (mark place.0 letter.0)

-- (back)
unfoldable pub back_at : Left → Result Form ℕ
back_at line = do
  rest ← named (codes "back") line
  end ← closing_at rest
  Ok back

-- (set)
unfoldable pub set_at : Left → Result Form ℕ
set_at line = do
  rest ← named (codes "set") line
  end ← closing_at rest
  Ok set

-- (reopen)
unfoldable pub reopen_at : Left → Result Form ℕ
reopen_at line = do
  rest ← named (codes "reopen") line
  end ← closing_at rest
  Ok reopen

-- (ask W F R)
unfoldable pub ask_at : Left → Result Form ℕ
ask_at line = do
  rest ← named (codes "ask") line
  width ← spaced natural_of rest
  floor ← spaced floor_of width.1
  mode ← spaced run_of floor.1
  end ← closing_at mode.1
  Ok (ask width.0 floor.0 mode.0)

-- (ask NAME R)
unfoldable pub ask_named_at : Left → Result Form ℕ
ask_named_at line = do
  rest ← named (codes "ask") line
  name ← spaced run_of rest
  mode ← spaced run_of name.1
  end ← closing_at mode.1
  Ok (ask_named name.0 mode.0)

-- the form that one of two readings gives, else the further of their places
abbrev pub either_of : {A : Type 0} → Result A ℕ → Result A ℕ → Result A ℕ
either_of (Ok form) other = Ok form
either_of (Err place) (Ok form) = Ok form
either_of (Err place) (Err further) = Err (max place further)

-- an ask, whichever grid it names
abbrev pub any_ask_at : Left → Result Form ℕ
any_ask_at line = either_of (ask_at line) (ask_named_at line)

-- any form, the last in the alphabet first
unfoldable pub form_at : Left → Result Form ℕ
form_at line =
    either_of (either_of (either_of (either_of (either_of (either_of (either_of (either_of
    (zero_at line)
    (term_at line))
    (set_at line))
    (reopen_at line))
    (not_a_number_at line))
    (mark_at line))
    (infinity_at line))
    (back_at line))
    (any_ask_at line)

-- the form that a line spells, or the first place at which none can go on
abbrev pub reading : List ℕ → Result Form ℕ
reading line = form_at (whole line)
