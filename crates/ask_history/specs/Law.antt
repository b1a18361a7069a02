-- The law of one call on a sheet in either state, and the law over a list of calls that is run on one new sheet.
use Rattle.std.specs.Prelude.{◌≡◌, ℕ, ◌<◌, min, true, List, [], ◌∷◌, ◌++◌, map, length, take, drop, ℤ, None, Ok, slice_index_or}
use Rattle.batch.specs.Term.{Term}
use Rattle.sheet.specs.Model.{Call, History, undoing, mark_after}
use Rattle.history.specs.Turns.{fitting}
use Rattle.answers.specs.Asked.{Question}
use Rattle.answers.specs.Trace.{Event, event, without_question, history_of, reply_after}
use Rattle.history.specs.declared.any_sheet.Sheet.{Sheet}
use Rattle.history.specs.Reaches.{shown_on}
use Rattle.ask_history.specs.declared.call.Call.{Call as ListedCall}
use Rattle.ask_history.specs.Data.{Outcome, call_of, reply_told, is_refusal, is_answer}
use Rattle.ask_history.specs.Traced.{Traced}

-- What holds of a call on the sheet `before` that leaves the sheet `after` and has the outcome o.
pub record CallLaw (before : Sheet) (c : Call Question) (after : Sheet) (o : Outcome) : Type 0 where
  -- whatever trace led to the sheet, the call gets what the model says to it after the calls of the trace
  pub answers : (h : List Event) → Traced h before → reply_told o ≡ reply_after (history_of h) c
  -- and the trace with this call and what it got is lawful again, and leads to the sheet that is left
  pub traced : (h : List Event) → Traced h before → Traced (h ++ event c (reply_told o) ∷ []) after
  -- a refused call leaves the sheet as it was
  pub when_refused : is_refusal (reply_told o) ≡ true → after ≡ before
  -- and so does an answered ask
  pub when_answered : is_answer (reply_told o) ≡ true → after ≡ before

-- the calls that are run: as many as there is room for outcomes
abbrev pub calls_run : {G : Type 0} → (G → ℤ → ℤ) → (G → ℕ) → List (List Term) → List (ListedCall G) → List Outcome → List (Call Question)
calls_run spacing widest batches cs room = take (min (length cs) (length room)) (map (call_of spacing widest batches) cs)

-- each call with what its outcome tells
abbrev pub trace_of : List (Call Question) → List Outcome → List Event
trace_of [] os = []
trace_of (c ∷ cs) [] = []
trace_of (c ∷ cs) (o ∷ os) = event c (reply_told o) ∷ trace_of cs os

-- the calls as the model of a sheet is fed them
abbrev pub history_run : List (Call Question) → History
history_run cs = map without_question cs

-- What holds of the calls that were run, the caller's outcomes before and after, and the sheet at the end. Nothing else enters: no earlier entry does.
pub record EntryLaw (cs : List (Call Question)) (before written : List Outcome) (s : Sheet) : Type 0 where
  -- each call, refused ones and ones out of turn among them, got what the model says to it after the calls before it
  pub answers : (i : ℕ) → i < length cs → reply_told (slice_index_or written i (Ok None)) ≡ reply_after (history_run (take i cs)) (slice_index_or cs i undoing)
  -- The calls with what they got are a lawful trace: each answer obeys the laws of distance and depth, any two answers, one downward and one upward on one
  -- batch and grid with marks alike, enclose the exact sum, and the sheet goes on from it as the model does.
  pub traced : Traced (trace_of cs written) s
  -- outcomes past the last call are as they were
  pub untouched : drop (length cs) written ≡ drop (length cs) before
  -- every place shows the model's mark
  pub marks : (p : ℕ) → shown_on s p ≡ mark_after (fitting (history_run cs)) p
