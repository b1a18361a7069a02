-- What the code holds of a text stands for the progress of its forms; private to the crate.
use Rattle.std.specs.Prelude.{◌≡◌, ℕ, true, false, length, Ok, Err, Option, Result, nat_lt}
use Rattle.ask_history.specs.declared.answered.AnsweredAsk.{AnsweredAsk}
use Rattle.ask_history.specs.Data.{reply_told}
use Rattle.ask_history.specs.Traced.{Traced}
use Rattle.forms.specs.Forms.{Form, not_a_number, infinity, signed_zero, term, mark, back, set, reopen, ask, ask_named}
use Rattle.form_reader.specs.Reading.{reading}
use Rattle.text_terms.specs.declared.list.TermList.{TermList}
use Rattle.text_terms.specs.TermLists.{terms_of}
use Rattle.text_lines.specs.Lines.{Line}
use Rattle.text_call.specs.declared.calls.Calls.{Calls}
use Rattle.text_call.specs.declared.fault.FormFault.{FormFault}
use Rattle.text_call.specs.declared.fault.LineFault.{LineFault}
use Rattle.text_call.specs.declared.fault.LineFault.TheVariants.{OddByte, Broken, Form as RefusedForm}
use Rattle.text_call.specs.Faults.{form_fault_number}
use Rattle.text_call.specs.Progress.{Progress, Outcome, refused_by, goes_on, outcome_of, asks_answered}
use Rattle.text_call.specs.Answer.{no_form_number}

-- the terms and the calls are those of the progress
pub record Stands (p : Progress) (ts : TermList) (c : Calls) : Type 0 where
  pub terms : terms_of ts ≡ p.terms
  pub traced : Traced p.trace c.sheet
  pub asks : c.asks ≡ asks_answered p.trace
  pub begun : c.begun ≡ nat_lt 0 (length p.trace)

-- what a form got, with its answer where there is one, and the terms and calls after it, are the outcome: it goes on, and
-- what is held stands for the progress after it; or it was refused
abbrev pub Made : Outcome → TermList → Calls → Result (Option AnsweredAsk) FormFault → Type 0
Made o ts c (Ok x) = (q : Progress) × (o ≡ goes_on q (reply_told (Ok x))) × Stands q ts c
Made o ts c (Err fault) = o ≡ refused_by (form_fault_number fault)

-- the line breaks at the place: reading is stuck there, and a line may hold the byte; or the line is a form, and its end
-- is missing
abbrev pub IsBroken : Line → ℕ → Result Form ℕ → Type 0
IsBroken l place (Err k) = (k ≡ place) × (no_form_number l.bytes place ≡ 19)
IsBroken l place (Ok f) = (l.ended ≡ false) × (place ≡ length l.bytes)

-- what reading a line comes to: its form; or the first place at which no form goes on, and whether a line may hold the
-- byte there; or its end, where that is missing
abbrev pub ReadsLine : Line → Result Form LineFault → Type 0
ReadsLine l (Ok f) = (l.ended ≡ true) × (reading l.bytes ≡ Ok f)
ReadsLine l (Err (RefusedForm fault)) = ⊥
ReadsLine l (Err (OddByte place)) = (reading l.bytes ≡ Err place) × (no_form_number l.bytes place ≡ 18)
ReadsLine l (Err (Broken place)) = IsBroken l place (reading l.bytes)

-- so of a line, which is taken as a form
abbrev pub TookLine : Line → Progress → TermList → Calls → Result (Option AnsweredAsk) LineFault → Type 0
TookLine l p ts c (Ok x) = (f : Form) × ReadsLine l (Ok f) × Made (outcome_of p f) ts c (Ok x)
TookLine l p ts c (Err (RefusedForm fault)) = (f : Form) × ReadsLine l (Ok f) × (outcome_of p f ≡ refused_by (form_fault_number fault))
TookLine l p ts c (Err (OddByte place)) = ReadsLine l (Err (OddByte place))
TookLine l p ts c (Err (Broken place)) = ReadsLine l (Err (Broken place))

-- how many limbs a form holds
abbrev pub limbs_of_form : Form → ℕ
limbs_of_form not_a_number = 0
limbs_of_form (infinity negative) = 0
limbs_of_form (signed_zero negative) = 0
limbs_of_form (term negative exponent precision limbs) = length limbs
limbs_of_form (mark place letter) = 0
limbs_of_form back = 0
limbs_of_form set = 0
limbs_of_form reopen = 0
limbs_of_form (ask width floor mode) = 0
limbs_of_form (ask_named name mode) = 0
