-- The law over a list of calls that is run on one new sheet.
use Rattle.std.specs.Prelude.{◌≡◌, ℕ, ◌<◌, min, List, length, take, drop, Ok, slice_index_or}
use Rattle.sheet.specs.Model.{History, undoing, mark_after}
use Rattle.history.specs.declared.call.SheetCall.{SheetCall}
use Rattle.history.specs.declared.any_sheet.Sheet.{Sheet}
use Rattle.history.specs.Data.{Outcome, calls_of, outcome_tells}
use Rattle.history.specs.Reaches.{Reaches, shown_on}
use Rattle.history.specs.Turns.{told_after, fitting}

-- the calls that are run: as many as there is room for outcomes
abbrev pub calls_run : List SheetCall → List Outcome → History
calls_run cs room = take (min (length cs) (length room)) (calls_of cs)

-- What holds of the calls that were run, the caller's outcomes before and after, and the sheet at the end. Nothing else enters: no earlier entry does.
pub record EntryLaw (cs : History) (before written : List Outcome) (s : Sheet) : Type 0 where
  -- each call got what the model says to it, after the calls before it
  pub answers : (i : ℕ) → i < length cs → outcome_tells (slice_index_or written i (Ok tt)) ≡ told_after (take i cs) (slice_index_or cs i undoing)
  -- outcomes past the last call are as they were
  pub untouched : drop (length cs) written ≡ drop (length cs) before
  -- every place shows the model's mark
  pub marks : (p : ℕ) → shown_on s p ≡ mark_after (fitting cs) p
  -- and the sheet goes on as the model does
  pub reaches : Reaches cs s
