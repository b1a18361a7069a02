-- Each next column is found below the one before.
use Rattle.walkthrough.proofs.Heights.{height}
use Rattle.walkthrough.proofs.columns.down.Given as goal

abbrev pub decreases-loop-here : goal.decreases-loop-here
decreases-loop-here g l = height l.here
