-- How many limbs a line holds at most: each takes nine of its bytes.
use Rattle.std.proofs.Common.{◌≡◌, ℕ, ◌*◌, ◌≤◌, Bool, List, [], ◌∷◌, ◌++◌, length, map, codes, ℤ, Ok, ap, arith, length-append}
use Rattle.std.specs.List.{join_with_byte}
use Rattle.std.specs.Fmt.{decimal, signed_decimal}
use Rattle.forms.specs.Parts.{bracketed, sign_text, limb_text, limbs_text}
use Rattle.forms.specs.Forms.{Form, not_a_number, infinity, signed_zero, term, mark, back, set, reopen, ask, ask_named, spelling, fields}
use Rattle.form_reader.specs.Reading.{reading}
use Rattle.form_reader.proofs.Lines.{reading-accepted}
use Rattle.fields.proofs.LimbTexts.{length-limbs_between}
use Rattle.text_call.specs.Standing.{limbs_of_form}

-- the text of limbs
length-limbs_text : (limbs : List ℕ) → 9 * length limbs ≤ length (limbs_text limbs)
length-limbs_text [] = omega arith
length-limbs_text (x ∷ xs) = omega (arith, length-limbs_between x xs, length-append (join_with_byte 32 (map limb_text (x ∷ xs))) (41 ∷ []))

-- the last of some joined texts
length-join_last : (x : List ℕ) (xs : List (List ℕ)) (last : List ℕ) → length last ≤ length (join_with_byte 32 ((x ∷ xs) ++ last ∷ []))
length-join_last x [] last = omega (arith, length-append x (32 ∷ last))
length-join_last x (y ∷ ys) last = omega (arith, length-join_last y ys last, length-append x (32 ∷ join_with_byte 32 ((y ∷ ys) ++ last ∷ [])))

-- the line of a term
pub limbs_of_line : (negative : Bool) (exponent : ℤ) (precision : ℕ) (limbs bytes : List ℕ) → bytes ++ 10 ∷ [] ≡ spelling (term negative exponent precision limbs) → 9 * length limbs ≤ length bytes
limbs_of_line negative exponent precision limbs bytes e =
    let texts = fields (term negative exponent precision limbs) in
    omega (
      arith,
      length-limbs_text limbs,
      length-join_last (codes "term") (sign_text negative ∷ signed_decimal exponent ∷ decimal precision ∷ []) (limbs_text limbs),
      length-append (join_with_byte 32 texts) (41 ∷ []),
      length-append (bracketed texts) (10 ∷ []),
      length-append bytes (10 ∷ []),
      ap length e,
    )

-- the limbs of a form that a line is
pub limbs_of_form-length : (f : Form) (bytes : List ℕ) → reading bytes ≡ Ok f → 9 * limbs_of_form f ≤ length bytes
limbs_of_form-length not_a_number bytes is = omega arith
limbs_of_form-length (infinity negative) bytes is = omega arith
limbs_of_form-length (signed_zero negative) bytes is = omega arith
limbs_of_form-length (term negative exponent precision limbs) bytes is = limbs_of_line negative exponent precision limbs bytes (reading-accepted (term negative exponent precision limbs) bytes is).1
limbs_of_form-length (mark place letter) bytes is = omega arith
limbs_of_form-length back bytes is = omega arith
limbs_of_form-length set bytes is = omega arith
limbs_of_form-length reopen bytes is = omega arith
limbs_of_form-length (ask width floor mode) bytes is = omega arith
limbs_of_form-length (ask_named name mode) bytes is = omega arith
