-- What undo will do: the steps that it will take, and the marks that a step restores.
use Rattle.std.specs.Prelude.{ℕ, cond, List, reverse, ◌==◌}
use Rattle.sheet.specs.declared.mark.Mark.{Mark}
use Rattle.sheet.specs.declared.trail.Step.{Step}
use Rattle.sheet.specs.declared.trail.Trail.{Trail}

-- the steps of a trail, the next to be undone first
abbrev pub undoes : Trail → List Step
undoes t = reverse t.steps.items

-- the marks after one step is undone
abbrev pub restored : (ℕ → Mark) → Step → ℕ → Mark
restored marks s p = cond (s.place.index == p) s.before (marks p)
