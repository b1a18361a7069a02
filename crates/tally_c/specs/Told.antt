-- What C is told of a text, and what it finds in its answer.
use Rattle.std.specs.Prelude.{ℕ, List, ◌++◌, length, drop, ℤ, pos, neg_ℤ, Some, None, Option}
use Rattle.text_call.specs.Answer.{text_answer}
use Rattle.text_call.specs.Faults.{text_fault_number, text_fault}
use Rattle.text_call.specs.declared.fault.TextFault.{TextFault}

-- how many bytes were written, or the opposite of a refusal's number
abbrev pub status_of : Option TextFault → List ℕ → ℤ
status_of None text = pos (length (text_answer text))
status_of (Some fault) text = neg_ℤ (pos (text_fault_number fault))

abbrev pub status : List ℕ → ℕ → ℤ
status text room = status_of (text_fault (length text) room) text

-- the answer, and behind it what was there; all that was there where the call is refused
abbrev pub answer_after_of : Option TextFault → List ℕ → List ℕ → List ℕ
answer_after_of None text room = text_answer text ++ drop (length (text_answer text)) room
answer_after_of (Some fault) text room = room

abbrev pub answer_after : List ℕ → List ℕ → List ℕ
answer_after text room = answer_after_of (text_fault (length text) (length room)) text room
