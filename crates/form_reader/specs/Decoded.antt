-- What a form that was read is, without where its words lie in memory.
use Rattle.forms.specs.Forms.{Form, not_a_number, infinity, signed_zero, term, mark, back, set, reopen, ask, ask_named}
use Rattle.fields.specs.Held.{limbs_held}
use Rattle.form_reader.specs.declared.decoded.Form.{Form as Decoded}
use Rattle.form_reader.specs.declared.decoded.Form.TheVariants.{NotANumber, Infinity, Zero, Term, Mark, Back, Set, Reopen, Ask, AskNamed}

-- the form itself
abbrev pub form_of : Decoded → Form
form_of NotANumber = not_a_number
form_of (Infinity negative) = infinity negative
form_of (Zero negative) = signed_zero negative
form_of (Term t) = term t.negative t.exponent t.precision (limbs_held t.limbs)
form_of (Mark place letter) = mark place letter.now
form_of Back = back
form_of Set = set
form_of Reopen = reopen
form_of (Ask width floor mode) = ask width floor mode.now
form_of (AskNamed name mode) = ask_named name.now mode.now
