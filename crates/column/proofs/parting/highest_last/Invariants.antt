-- No term so far ends above it.
use Rattle.std.proofs.Common.{◌≤ℤ◌}
use Rattle.std.specs.List.{AllWithin}
use Rattle.column.proofs.parting.highest_last.Given as goal

abbrev pub invariant-loop-term : goal.invariant-loop-term
invariant-loop-term l = AllWithin (λ c. c.last ≤ℤ l.highest) l.terms 0 l.term-index
