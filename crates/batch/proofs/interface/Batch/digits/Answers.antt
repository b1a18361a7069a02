-- The digit at one more place, and the column below it; where no i32 names the column, the term has no digit there.
use Rattle.std.proofs.Common.{◌≡◌, ◌+◌, pos, neg_ℤ, ◌-ℤ◌, ◌<ℤ◌, MatchOption, w32, rules, tests}
use Rattle.std.proofs.lemmas.Int.{to_z-of_z}
use Rattle.batch.specs.Lookup.{digit_of_term}
use Rattle.batch.proofs.Runs.{none_far_below, known_more}
use Rattle.batch.proofs.interface.Batch.digits.Goals as goal

pub loop-digit-preserved : goal.loop-digit-preserved
loop-digit-preserved g c =
    let terms = g.Self.Batch.terms c.args.self.now in
    let column = c.args.column in
    let same = to_z-of_z w32 column c.ranges.column in
    let j = c.loop-digit.digit-index in
    let far = none_far_below terms (g.Self.Batch.limited c.args.self.now) c.args.i in
    let here : c.map_or.result ≡ digit_of_term terms c.args.i (column -ℤ pos j) = search (rules, tests) in
    let next : MatchOption c.and_then-at.result ((column -ℤ pos (j + 1)) <ℤ neg_ℤ (pos 2147483648)) (λ k. k ≡ column -ℤ pos (j + 1)) = search (rules, tests) in
    rw same (next, known_more (λ k. digit_of_term terms c.args.i (column -ℤ pos k)) c.loop-digit.digits j _ (search rules) here (rw same at (c.loop-digit.invariant.1)))
