-- When a list of calls, some of them perhaps out of turn, reaches a sheet in either state.
use Rattle.std.specs.Prelude.{◌≡◌, ℕ, true, false}
use Rattle.sheet.specs.Model.{History}
use Rattle.sheet.specs.Reached.{Reached, ReachedSet}
use Rattle.sheet.specs.Shown.{shown}
use Rattle.sheet.specs.declared.mark.Mark.{Mark}
use Rattle.history.specs.declared.any_sheet.Sheet.{Sheet}
use Rattle.history.specs.declared.any_sheet.Sheet.TheVariants.{Open, Set}
use Rattle.history.specs.Turns.{open_after, fitting}

abbrev pub Reaches : History → Sheet → Type 0
Reaches cs (Open s) = (open_after cs ≡ true) × Reached (fitting cs) s
Reaches cs (Set s) = (open_after cs ≡ false) × ReachedSet (fitting cs) s

-- the mark that a place of the sheet shows
abbrev pub shown_on : Sheet → ℕ → Mark
shown_on (Open s) p = shown s.marks p
shown_on (Set s) p = shown s.marks p
