use Rattle.std.proofs.Common.{arith, w32, SFits, rules}
use Rattle.std.proofs.lemmas.Int.{ints}
use Rattle.partial_sum.proofs.Shortness.{window_exponent}
use Rattle.partial_sum.proofs.sum.PartialSum.top_exponent.Goals as goal

pub returns : goal.returns
returns c =
    let p = c.args.self.now in
    let fits : SFits w32 p.lowest = search rules in
    let upto = window_exponent p in
    omega (arith, ints, c.requires.from, c.requires.upto, p.used)
