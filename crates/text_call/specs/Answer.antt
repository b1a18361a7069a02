-- The answer to a text: one definition over its bytes.
use Rattle.std.specs.Prelude.{ℕ, ◌+◌, Bool, cond, ◌||◌, ◌&&◌, not, List, [], ◌∷◌, ◌++◌, length, Ok, Err, Result, slice_index, ◌==◌, nat_lt}
use Rattle.answers.specs.Asked.{Reply, done, refused, answered}
use Rattle.forms.specs.Forms.{Form}
use Rattle.forms.specs.Parts.{is_alphanumeric}
use Rattle.forms.specs.Written.{refusal, written}
use Rattle.form_reader.specs.Reading.{reading}
use Rattle.line_writer.specs.Answers.{answer_line}
use Rattle.text_lines.specs.Lines.{Line, lines_of}
use Rattle.text_call.specs.declared.fault.TextFault.TheVariants.{TextTooLong}
use Rattle.text_call.specs.Faults.{longest_text, text_fault_number}
use Rattle.text_call.specs.Progress.{Progress, start, Outcome, refused_by, goes_on, outcome_of}

-- what is written of a reply: the line of an answer, and nothing else
abbrev pub reply_text : Reply → List ℕ
reply_text done = []
reply_text (refused r) = []
reply_text (answered a) = written (answer_line a)

-- a byte that a line may hold: a letter, a digit, a bracket, a space, + or -
abbrev pub is_line_byte : ℕ → Bool
is_line_byte b = is_alphanumeric b || (b == 40 || (b == 41 || (b == 32 || (b == 43 || b == 45))))

-- a line that is no form, refused at place k: 18 where a byte stands there that no line may hold, else 19
abbrev pub no_form_number : List ℕ → ℕ → ℕ
no_form_number bytes k = cond (nat_lt k (length bytes) && not (is_line_byte (slice_index bytes k))) 18 19

-- the line of a refusal
abbrev pub refusal_text : ℕ → ℕ → ℕ → List ℕ
refusal_text number line byte = written (refusal number line byte)

-- What is written of the form of the n-th line and of the lines after it, by what the form gets; more is what is
-- written of these after it.
abbrev pub text_from_form : ℕ → Outcome → (Progress → List ℕ) → List ℕ
text_from_form n (refused_by number) more = refusal_text number n 1
text_from_form n (goes_on q reply) more = reply_text reply ++ more q

-- the same of the n-th line, by what it is read as
abbrev pub text_from_line : Progress → ℕ → Line → Result Form ℕ → (Progress → List ℕ) → List ℕ
text_from_line p n l (Err k) more = refusal_text (no_form_number l.bytes k) n (k + 1)
text_from_line p n l (Ok f) more =
    cond l.ended (text_from_form n (outcome_of p f) more) (refusal_text 19 n (length l.bytes + 1))

-- What is written of the lines from the n-th on, after the progress p; work ends at the first refusal.
abbrev pub text_from : Progress → ℕ → List Line → List ℕ
text_from p n [] = []
text_from p n (l ∷ ls) = text_from_line p n l (reading l.bytes) (λ q. text_from q (n + 1) ls)

-- the answer to a text
unfoldable pub text_answer : List ℕ → List ℕ
text_answer text = text_from start 1 (lines_of text)

-- the answer to any text, as a program writes it: of one that is too long the line of its refusal, which blames line 0 and byte 0
abbrev pub any_answer : List ℕ → List ℕ
any_answer text = cond (nat_lt longest_text (length text)) (refusal_text (text_fault_number TextTooLong) 0 0) (text_answer text)
