-- The law of a text and its answer, in the words of whoever wrote the text.
use Rattle.std.specs.Prelude.{◌≡◌, ℕ, ◌+◌, ◌<◌, ◌≤◌, cond, ◌&&◌, ◌||◌, not, ◌⊎◌, List, [], ◌++◌, length, take, Ok, Result, slice_index, ◌==◌, nat_lt, false}
use Rattle.std.specs.List.{AllByRecursion, AllZip, flat_map}
use Rattle.batch.specs.Term.{Term, Batchable}
use Rattle.grid.specs.declared.fault.GridFault.{GridFault}
use Rattle.sheet.specs.Model.{Call, marking, undoing, setting, reopening, asking}
use Rattle.answers.specs.Asked.{Question, question}
use Rattle.answers.specs.Trace.{Event, LawfulTrace}
use Rattle.ask_history.specs.Data.{is_refusal}
use Rattle.forms.specs.Forms.{Form, not_a_number as nan_form, infinity, signed_zero as zero_form, term, mark, back, set, reopen, ask, ask_named, spelling, WellFormed, IsLine}
use Rattle.forms.specs.Written.{refusal, written}
use Rattle.forms.specs.Languages.{Begins}
use Rattle.text_terms.specs.Meaning.{IsTerm}
use Rattle.any_grid.specs.Asked.{Meaning, grid_of_width, grid_of_name}
use Rattle.text_call.specs.Letters.{mark_of_run, mode_of_run}
use Rattle.text_call.specs.Progress.{Progress, limbs_lent, most_asks, asks_answered, outcome_of, refused_by}
use Rattle.text_call.specs.Answer.{reply_text, is_line_byte}

-- the ask of the terms in a mode, on a grid that was not refused
abbrev pub IsAsk : List Term → Result Meaning GridFault → List ℕ → Call Question → Type 0
IsAsk ts grid mode c =
    (g : Meaning) × (grid ≡ Ok g) × (c ≡ asking (question ts g.spacing g.width (mode_of_run mode) limbs_lent))

-- the form means the call on a batch of these terms
abbrev pub IsCall : List Term → Form → Call Question → Type 0
IsCall ts nan_form c = ⊥
IsCall ts (infinity negative) c = ⊥
IsCall ts (zero_form negative) c = ⊥
IsCall ts (term negative exponent precision limbs) c = ⊥
IsCall ts (mark place letter) c = c ≡ marking place (mark_of_run letter)
IsCall ts back c = c ≡ undoing
IsCall ts set c = c ≡ setting
IsCall ts reopen c = c ≡ reopening
IsCall ts (ask width floor mode) c = IsAsk ts (grid_of_width width floor) mode c
IsCall ts (ask_named name mode) c = IsAsk ts (grid_of_name name) mode c

-- the forms mean the terms, one by one
abbrev pub AreTerms : List Form → List Term → Type 0
AreTerms fs ts = AllZip IsTerm fs ts

-- the forms mean the calls of the events, one by one
abbrev pub AreCalls : List Term → List Form → List Event → Type 0
AreCalls terms fs h = AllZip (λ f (e : Event). IsCall terms f e.call) fs h

-- the call was not refused
abbrev pub NotRefused : Event → Type 0
NotRefused e = is_refusal e.got ≡ false

-- k is the first place of the text at which no form can go on: the bytes before it begin some spelling, and with the
-- byte there they do not, or no byte is there. No whole line stands in front, as one might that ends at k
pub record StuckAt (text : List ℕ) (k : ℕ) : Type 0 where
  pub within : k ≤ length text
  pub goes : Begins IsLine (take k text)
  pub stuck : k < length text → ¬ Begins IsLine (take (k + 1) text)
  pub whole : (f : Form) (more : List ℕ) → WellFormed f → ¬ (text ≡ spelling f ++ more)

-- 18 where a byte stands at k that no line may hold, else 19; byte 10 ends a line
abbrev pub stuck_number : List ℕ → ℕ → ℕ
stuck_number text k = cond (nat_lt k (length text) && not (is_line_byte (slice_index text k) || slice_index text k == 10)) 18 19

-- what is left of the text begins with a line that is no form
pub record BrokenLine (left : List ℕ) (number byte : ℕ) : Type 0 where
  pub place : ℕ
  pub stuck : StuckAt left place
  pub number_is : number ≡ stuck_number left place
  pub byte_is : byte ≡ place + 1

-- what is left of the text begins with a form that is refused after these terms and calls
pub record RefusedForm (p : Progress) (left : List ℕ) (number byte : ℕ) : Type 0 where
  pub form : Form
  pub more : List ℕ
  pub well_formed : WellFormed form
  pub begins : left ≡ spelling form ++ more
  pub refused : outcome_of p form ≡ refused_by number
  pub byte_is : byte ≡ 1

-- something is left, the n-th line; it is refused, and that is what was written of it
pub record RefusedLine (p : Progress) (n : ℕ) (left close : List ℕ) : Type 0 where
  pub some : 0 < length left
  pub number : ℕ
  pub byte : ℕ
  pub why : BrokenLine left number byte ⊎ RefusedForm p left number byte
  pub told : close ≡ written (refusal number n byte)

-- nothing is left, and nothing more was written; or the next line is refused
abbrev pub Ending : Progress → ℕ → List ℕ → List ℕ → Type 0
Ending p n left close = ((left ≡ []) × (close ≡ [])) ⊎ RefusedLine p n left close

-- What holds of a text and its answer.
pub record TextLaw (text answer : List ℕ) : Type 0 where
  pub term_forms : List Form
  pub call_forms : List Form
  pub terms : List Term
  pub trace : List Event
  pub left : List ℕ
  pub close : List ℕ
  -- the text is the spellings of forms, one after another, first those of terms, and then what is left
  pub well_formed : AllByRecursion WellFormed (term_forms ++ call_forms)
  pub spelled : text ≡ flat_map spelling (term_forms ++ call_forms) ++ left
  -- the terms of those forms are the batch
  pub are_terms : AreTerms term_forms terms
  pub batchable : Batchable terms
  -- the calls of those forms, each with what it got, are a lawful trace on that batch: every answer is near and its
  -- depth the least, downward and upward enclose the sum, and what came before shows in nothing but the marks
  pub are_calls : AreCalls terms call_forms trace
  pub lawful : LawfulTrace trace
  pub done : AllByRecursion NotRefused trace
  pub few_asks : asks_answered trace ≤ most_asks
  -- the answer is the lines of the answers in order, and then what was written of what is left
  pub answer_is : answer ≡ flat_map (λ (e : Event). reply_text e.got) trace ++ close
  pub ending : Ending (record { terms = terms; trace = trace }) (length (term_forms ++ call_forms) + 1) left close
