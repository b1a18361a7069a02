-- Why a text call, a line or a form is refused, by number.
use Rattle.std.specs.Prelude.{ℕ, ◌+◌, cond, Some, None, Option, nat_lt}
use Rattle.batch.specs.Faults.{fault_number as batch_fault_number}
use Rattle.grid.specs.Faults.{fault_number as grid_fault_number}
use Rattle.ask_history.specs.Data.{call_fault_refusal}
use Rattle.text_call.specs.declared.fault.FormFault.{FormFault}
use Rattle.text_call.specs.declared.fault.FormFault.TheVariants.{Batch, TermAfterCall, TooManyAsks, Grid, Call}
use Rattle.text_call.specs.declared.fault.LineFault.{LineFault}
use Rattle.text_call.specs.declared.fault.LineFault.TheVariants.{OddByte, Broken, Form}
use Rattle.text_call.specs.declared.fault.TextFault.{TextFault}
use Rattle.text_call.specs.declared.fault.TextFault.TheVariants.{TextTooLong, AnswerTooShort}

-- the number of a form's fault
abbrev pub form_fault_number : FormFault → ℕ
form_fault_number (Batch fault) = batch_fault_number fault
form_fault_number TermAfterCall = 20
form_fault_number TooManyAsks = 21
form_fault_number (Grid fault) = grid_fault_number fault
form_fault_number (Call fault) = (call_fault_refusal fault).number

-- the number of a line's fault
abbrev pub line_fault_number : LineFault → ℕ
line_fault_number (OddByte place) = 18
line_fault_number (Broken place) = 19
line_fault_number (Form fault) = form_fault_number fault

-- the byte of the line that it blames, counted from 1
abbrev pub line_fault_byte : LineFault → ℕ
line_fault_byte (OddByte place) = place + 1
line_fault_byte (Broken place) = place + 1
line_fault_byte (Form fault) = 1

-- how many bytes a text may have, and how many the room for its answer must
abbrev pub longest_text : ℕ
longest_text = 49152

abbrev pub least_room : ℕ
least_room = 49152

-- the number of a fault of the call itself
abbrev pub text_fault_number : TextFault → ℕ
text_fault_number TextTooLong = 22
text_fault_number AnswerTooShort = 23

-- by what a call is refused, if it is: first for its text, then for the room
abbrev pub text_fault : ℕ → ℕ → Option TextFault
text_fault length_of_text room = cond (nat_lt longest_text length_of_text) (Some TextTooLong) (cond (nat_lt room least_room) (Some AnswerTooShort) None)
