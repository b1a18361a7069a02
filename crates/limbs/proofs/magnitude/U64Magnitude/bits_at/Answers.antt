-- A word moved down by 64 bits or more.
use Rattle.std.proofs.Common.{rules}
use Rattle.exact.proofs.LowDigits.{lowered_away}
use Rattle.limbs.proofs.magnitude.U64Magnitude.bits_at.Goals as goal

pub returns-then-at-ge64 : goal.returns-then-at-ge64
returns-then-at-ge64 c = lowered_away _ _ (search rules) c.if-at-ge64.true
