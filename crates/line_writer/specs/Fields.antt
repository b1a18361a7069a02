-- The fields of a line, and the line that they make.
use Rattle.std.specs.Prelude.{List, [], ◌∷◌, ◌++◌, ℕ, map}
use Rattle.std.specs.Fmt.{decimal, signed_decimal}
use Rattle.forms.specs.Parts.{bracketed, sign_text, limbs_text}
use Rattle.line_writer.specs.declared.field.Field.{Field}
use Rattle.line_writer.specs.declared.field.Field.TheVariants.{Word, Sign, Signed, Number, Limbs}

-- the text of a field
abbrev pub field_text : Field → List ℕ
field_text (Word word) = word.now
field_text (Sign negative) = sign_text negative
field_text (Signed number) = signed_decimal number
field_text (Number number) = decimal number
field_text (Limbs limbs) = limbs_text limbs.now

-- the line of these fields, with the byte 10 that ends it
abbrev pub line_text : List Field → List ℕ
line_text fields = bracketed (map field_text fields) ++ (10 ∷ [])
