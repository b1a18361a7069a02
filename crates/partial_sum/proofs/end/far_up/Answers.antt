use Rattle.std.proofs.Common.{arith, pow_mono}
use Rattle.std.proofs.lemmas.Int.{ints}
use Rattle.partial_sum.proofs.end.far_up.Goals as goal

pub returns-then-units-lt0-clause-placed : goal.returns-then-units-lt0-clause-placed
returns-then-units-lt0-clause-placed c = λ k high. omega (arith, ints, c.if-units-lt0.true, pow_mono high)

pub returns-else-units-lt0-clause-placed : goal.returns-else-units-lt0-clause-placed
returns-else-units-lt0-clause-placed c = λ k high. omega (arith, ints, c.if-units-lt0.false, c.if-units-eq0.false, pow_mono high)
