-- The form of a term, and its line.
use Rattle.std.specs.Prelude.{ℕ, ◌*◌, ◌^◌, List, [], map, pos, ◌+ℤ◌, slice_index_or}
use Rattle.std.specs.Float.Ieee.{size}
use Rattle.batch.specs.Term.{Term, not_a_number, infinite, signed_zero, regular}
use Rattle.limb_batch.specs.Records.{limbs_for, spare_bits}
use Rattle.answers.specs.Published.{limbs_of}
use Rattle.forms.specs.Forms as Forms
use Rattle.forms.specs.Forms.{Form, spelling}

-- m, a number of p digits, shifted up so that its first digit is the top bit of the last of its limbs
abbrev pub significand_of : ℕ → ℕ → List ℕ
significand_of m p = limbs_of (limbs_for p) (m * 2 ^ spare_bits p)

-- the form of a term
abbrev pub form_of_term : Term → Form
form_of_term not_a_number = Forms.not_a_number
form_of_term (infinite negative) = Forms.infinity negative
form_of_term (signed_zero negative) = Forms.signed_zero negative
form_of_term (regular negative m q) = Forms.term negative (q +ℤ pos (size m)) (size m) (significand_of m (size m))

-- its line
abbrev pub text_of_term : Term → List ℕ
text_of_term t = spelling (form_of_term t)

-- the line of term i, and nothing past the last term
abbrev pub term_line : List Term → ℕ → List ℕ
term_line ts i = slice_index_or (map text_of_term ts) i []
