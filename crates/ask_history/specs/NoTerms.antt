-- A batch may be without terms.
use Rattle.std.specs.Prelude.{[]}
use Rattle.std.proofs.Common.{arith}
use Rattle.batch.specs.Term.{Batchable}

pub none_batchable : Batchable []
none_batchable = record { few = omega arith; each_limited = tt }
