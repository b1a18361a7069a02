-- When a history reaches a sheet.
use Rattle.std.specs.Prelude.{◌≡◌, ℕ, ◌<◌, List, [], ◌∷◌}
use Rattle.sheet.specs.declared.mark.Mark.{Mark}
use Rattle.sheet.specs.declared.trail.Step.{Step}
use Rattle.sheet.specs.declared.sheet.OpenSheet.{OpenSheet}
use Rattle.sheet.specs.declared.sheet.SetSheet.{SetSheet}
use Rattle.sheet.specs.Model.{undoing, History, Model, last_mark, done, model}
use Rattle.sheet.specs.Shown.{shown}
use Rattle.sheet.specs.Undo.{undoes, restored}

-- every place shows the model's mark
abbrev pub Shows : Model → (ℕ → Mark) → Type 0
Shows m marks = (p : ℕ) → marks p ≡ last_mark m.notes p

-- one undo of the model
abbrev pub undone : Model → Model
undone m = done {Q = Unit {0}} m undoing

-- every place shows the model's mark, and undo goes on as the model does: with nothing left to undo exactly when the model has nothing,
-- and else again so after the next step
abbrev pub Agrees : Model → (ℕ → Mark) → List Step → Type 0
Agrees m marks [] = Shows m marks × (m.h ≡ 0)
Agrees m marks (s ∷ ss) = Shows m marks × (0 < m.h) × Agrees (undone m) (restored marks s) ss

-- the history reaches the open sheet
abbrev pub Reached : History → OpenSheet → Type 0
Reached cs s = Agrees (model cs) (shown s.marks) (undoes s.trail)

-- the history reaches the set sheet, which has nothing to undo
abbrev pub ReachedSet : History → SetSheet → Type 0
ReachedSet cs s = Shows (model cs) (shown s.marks)
