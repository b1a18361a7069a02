-- 5 has three binary digits.
use Rattle.std.proofs.Common.{rules}
use Rattle.batch_edges.specs.FiveHalves.{five_digits}
use Rattle.batch_edges.proofs.five_halves.FiveHalvesBatch.top.Goals as goal

pub returns-then-i-eq0 : goal.returns-then-i-eq0
returns-then-i-eq0 c = search (rules, five_digits)
