-- The tests of equality of answers and of ends hold exactly where these are the same.
use Rattle.std.proofs.Common.{◌≡◌, true, rules}
use Rattle.ends.specs.contracts.rounded_end.RoundedEndPartialEq.TheImpl as answers
use Rattle.partial_sum.specs.contracts.end.WindowEndPartialEq.TheImpl as ends
use Rattle.partial_sum.specs.declared.end.WindowEnd.{WindowEnd}
use Rattle.ends.specs.declared.rounded_end.RoundedEnd.{RoundedEnd}

pub same_when : (r q : RoundedEnd) → answers.ghosts.eq r q ≡ true → r ≡ q
same_when r q e = search rules

pub when_same : (r q : RoundedEnd) → r ≡ q → answers.ghosts.eq r q ≡ true
when_same r q e = search rules

pub same_end : (e f : WindowEnd) → e ≡ f → ends.ghosts.eq e f ≡ true
same_end e f t = search rules
