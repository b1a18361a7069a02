-- The limbs of 0 above the others add nothing.
use Rattle.std.proofs.Common.{◌≡◌, length, rules}
use Rattle.std.specs.Prelude.{replicate}
use Rattle.limbs.proofs.ZeroLimbs.{value_padded}
use Rattle.limbs.proofs.top.write_rounded.Goals as goal

pub returns : goal.returns
returns c =
    let rest : c.fill.new.self ≡ replicate (length c.fill.new.self) 0 = search rules in
    rw (rest, value_padded c.write_bits.new.limbs (length c.fill.new.self)) c.write_bits.ensures
