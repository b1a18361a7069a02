-- The columns that are not named.
use Rattle.std.proofs.Common.{ap, of_z, w32}
use Rattle.batch_edges.proofs.OtherDigits.{no_other_digit}
use Rattle.batch_edges.proofs.five_halves.FiveHalvesBatch.digit.Goals as goal

pub returns-in_default : goal.returns-in_default
returns-in_default c =
    let others = c.in_default.is-1 in
    let none = no_other_digit c.args.column (λ e. others.0.1 (ap (of_z w32) e)) (λ e. others.1 (ap (of_z w32) e)) in
    rw c.in_default.is-0 none
