-- Before each turn the descent stands at the column of the terms, and each turn leaves fewer below.
use Rattle.grid.specs.Modes.{mode_of}
use Rattle.column.specs.ColumnCursor.{listed_parts}
use Rattle.depth.proofs.Descending.{left}
use Rattle.depth.proofs.Turns.{Turn}
use Rattle.depth.proofs.descent.descend.Given as goal

abbrev pub invariant-loop-end : goal.invariant-loop-end
invariant-loop-end g l = Turn (g.G.Grid.spacing l.rounding.grid.now) (mode_of l.rounding.mode) (listed_parts l.fn.terms) l.terms l.descent

abbrev pub decreases-loop-end : goal.decreases-loop-end
decreases-loop-end g l = left l.descent
