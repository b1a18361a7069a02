-- What the forms of a text come to, one after another: the terms, the calls with what each got, and which form is refused.
use Rattle.std.specs.Prelude.{ℕ, Bool, cond, List, [], ◌∷◌, ◌++◌, length, count_by, Some, None, Ok, Err, Option, Result, nat_lt}
use Rattle.batch.specs.Term.{Term, not_a_number, infinite, signed_zero, most_terms}
use Rattle.batch.specs.Faults.{record_fault_number}
use Rattle.batch.specs.declared.fault.RecordFault.{RecordFault}
use Rattle.grid.specs.Faults.{fault_number}
use Rattle.grid.specs.declared.fault.GridFault.{GridFault}
use Rattle.sheet.specs.Model.{Call, marking, undoing, setting, reopening, asking}
use Rattle.history.specs.Turns.{open_after}
use Rattle.answers.specs.Asked.{Question, question, Reply, done, refused, answered}
use Rattle.answers.specs.Trace.{Event, event, history_of, reply_after}
use Rattle.ask_history.specs.Data.{is_answer}
use Rattle.forms.specs.Forms.{Form, not_a_number as nan_form, infinity, signed_zero as zero_form, term, mark, back, set, reopen, ask, ask_named}
use Rattle.text_terms.specs.Meaning.{term_fault, term_meant}
use Rattle.any_grid.specs.Asked.{Meaning, grid_of_width, grid_of_name}
use Rattle.text_call.specs.Letters.{mark_of_run, mode_of_run}

-- The terms so far, and the calls so far with what each got. Nothing is refused in it: the first refused form ends the text.
pub record Progress : Type 0 where
  pub terms : List Term
  pub trace : List Event

-- before the first form
abbrev pub start : Progress
start = record { terms = []; trace = [] }

-- What a form gets: it is refused under a number; or it is done, with the progress after it and what it got.
pub data Outcome : Type 0 where
  refused_by : ℕ → Outcome
  goes_on : Progress → Reply → Outcome

-- was the call an ask that was answered?
abbrev pub is_answered : Event → Bool
is_answered e = is_answer e.got

-- how many asks were answered
abbrev pub asks_answered : List Event → ℕ
asks_answered h = count_by is_answered h

-- how many asks a text may hold
abbrev pub most_asks : ℕ
most_asks = 32

-- how many limbs each ask lends: as many as the widest grid takes
abbrev pub limbs_lent : ℕ
limbs_lent = 128

-- ---- terms
-- a term that has no fault, or the fault of its record
abbrev pub term_added : Progress → Option RecordFault → Term → Outcome
term_added p (Some fault) t = refused_by (record_fault_number fault)
term_added p None t = goes_on (record { terms = p.terms ++ t ∷ []; trace = p.trace }) done

-- 20 after a call, 1 where there are 1,024 terms, then the fault of its record
abbrev pub term_outcome : Progress → Option RecordFault → Term → Outcome
term_outcome p fault t =
    cond (nat_lt 0 (length p.trace)) (refused_by 20)
    (cond (nat_lt (length p.terms) most_terms) (term_added p fault t)
    (refused_by 1))

-- ---- calls
-- what a call gets, by the reply to it
abbrev pub replied : Progress → Call Question → Reply → Outcome
replied p c (refused r) = refused_by r.number
replied p c done = goes_on (record { terms = p.terms; trace = p.trace ++ event c done ∷ [] }) done
replied p c (answered a) =
    goes_on (record { terms = p.terms; trace = p.trace ++ event c (answered a) ∷ [] }) (answered a)

-- a call gets what the law of traces says to it after the calls before it: 20 out of turn, else what the sheet's model says
abbrev pub call_outcome : Progress → Call Question → Outcome
call_outcome p c = replied p c (reply_after (history_of p.trace) c)

-- the ask of the terms so far on a grid, or the fault of the grid
abbrev pub ask_on : Progress → Result Meaning GridFault → ℕ → Outcome
ask_on p (Err fault) mode = refused_by (fault_number fault)
ask_on p (Ok grid) mode = call_outcome p (asking (question p.terms grid.spacing grid.width mode limbs_lent))

-- 20 on an open sheet, 21 after 32 asks, then the fault of the grid, then what the ask gets
abbrev pub ask_outcome : Progress → Result Meaning GridFault → ℕ → Outcome
ask_outcome p grid mode =
    cond (open_after (history_of p.trace)) (refused_by 20)
    (cond (nat_lt (asks_answered p.trace) most_asks) (ask_on p grid mode)
    (refused_by 21))

-- ---- what a form gets
abbrev pub outcome_of : Progress → Form → Outcome
outcome_of p nan_form = term_outcome p None not_a_number
outcome_of p (infinity negative) = term_outcome p None (infinite negative)
outcome_of p (zero_form negative) = term_outcome p None (signed_zero negative)
outcome_of p (term negative exponent precision limbs) =
    term_outcome p (term_fault exponent precision limbs) (term_meant negative exponent precision limbs)
outcome_of p (mark place letter) = call_outcome p (marking place (mark_of_run letter))
outcome_of p back = call_outcome p undoing
outcome_of p set = call_outcome p setting
outcome_of p reopen = call_outcome p reopening
outcome_of p (ask width floor mode) = ask_outcome p (grid_of_width width floor) (mode_of_run mode)
outcome_of p (ask_named name mode) = ask_outcome p (grid_of_name name) (mode_of_run mode)
