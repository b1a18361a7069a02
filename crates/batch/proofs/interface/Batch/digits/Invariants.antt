-- The digits so far are those of the term, and the next column is the one below them, if a column can lie there.
use Rattle.std.proofs.Common.{◌≡◌, ℕ, ◌<◌, pos, neg_ℤ, ◌-ℤ◌, ◌<ℤ◌, slice_index, MatchOption}
use Rattle.batch.specs.Lookup.{digit_of_term}
use Rattle.batch.proofs.interface.Batch.digits.Given as goal

abbrev pub invariant-loop-digit : goal.invariant-loop-digit
invariant-loop-digit g l = MatchOption l.at ((l.fn.column -ℤ pos l.digit-index) <ℤ neg_ℤ (pos 2147483648)) (λ k. k ≡ l.fn.column -ℤ pos l.digit-index)
    × ((k : ℕ) → k < l.digit-index → slice_index l.digits k ≡ digit_of_term (g.Self.Batch.terms l.self) l.i (l.fn.column -ℤ pos k))
