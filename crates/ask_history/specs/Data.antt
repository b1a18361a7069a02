-- Calls and outcomes as a program holds them, and what they stand for.
use Rattle.std.specs.Prelude.{ℕ, min, Bool, true, false, List, [], take, ℤ, Some, None, Ok, Err, Option, Result, slice_index_or}
use Rattle.batch.specs.Term.{Term}
use Rattle.sheet.specs.Model.{Call as CallOf, asking}
use Rattle.sheet.specs.Numbers.{Refusal, refused_by}
use Rattle.history.specs.Data.{call_of as sheet_call_of, call_fault_number}
use Rattle.answers.specs.Asked.{Question, question, Reply, done, refused, answered}
use Rattle.ask.specs.Told.{published, fault_refusal as ask_refusal}
use Rattle.ask_history.specs.declared.call.Asking.{Asking}
use Rattle.ask_history.specs.declared.call.Call.{Call}
use Rattle.ask_history.specs.declared.call.Call.TheVariants.{Sheet, Ask}
use Rattle.ask_history.specs.declared.answered.AnsweredAsk.{AnsweredAsk}
use Rattle.ask_history.specs.declared.outcome.CallFault.{CallFault}
use Rattle.ask_history.specs.declared.outcome.CallFault.TheVariants.{Call as CallRefused, Ask as AskRefused}

-- the question of an ask about a list of terms; an ask of a list lends at most 128 limbs, as many as the widest grid needs
abbrev pub question_of : {G : Type 0} → (G → ℤ → ℤ) → (G → ℕ) → List Term → Asking G → Question
question_of spacing widest terms a = question terms (spacing a.grid) (widest a.grid) a.mode (min a.limbs 128)

-- the call that a call of a list is: spacing and widest are those of its grids, and a number past the last batch means no terms
abbrev pub call_of : {G : Type 0} → (G → ℤ → ℤ) → (G → ℕ) → List (List Term) → Call G → CallOf Question
call_of spacing widest batches (Sheet c) = sheet_call_of c
call_of spacing widest batches (Ask a) = asking (question_of spacing widest (slice_index_or batches a.batch []) a)

abbrev pub call_fault_refusal : CallFault → Refusal
call_fault_refusal (CallRefused f) = refused_by (call_fault_number f)
call_fault_refusal (AskRefused f) = ask_refusal f

abbrev pub Outcome : Type 0
Outcome = Result (Option AnsweredAsk) CallFault

-- what an outcome tells
abbrev pub reply_told : Outcome → Reply
reply_told (Ok None) = done
reply_told (Ok (Some x)) = answered (published x.answer (take x.lent x.limbs))
reply_told (Err f) = refused (call_fault_refusal f)

-- is it a refusal? is it an answer?
abbrev pub is_refusal : Reply → Bool
is_refusal done = false
is_refusal (refused f) = true
is_refusal (answered a) = false

abbrev pub is_answer : Reply → Bool
is_answer done = false
is_answer (refused f) = false
is_answer (answered a) = true
