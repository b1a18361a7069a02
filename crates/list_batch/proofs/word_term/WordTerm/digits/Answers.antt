-- The start of each column, counted from the weight of the word.
use Rattle.std.proofs.Common.{ℕ, ◌%◌, pos, ◌-ℤ◌, sym, ap, ◌∙◌, arith}
use borrow.Author.Differences.{ints}
use Rattle.batch.specs.Term.{digit_at, column_weight}
use Rattle.batch.proofs.Units.{units_moved}
use Rattle.list_batch.specs.WordTerms.{spelled}
use Rattle.list_batch.proofs.word_term.WordTerm.digits.Goals as goal

pub returns-in-Regular-clause-each : goal.returns-in-Regular-clause-each
returns-in-Regular-clause-each c j l =
    let k = c.args.column -ℤ pos j in
    let read = rw c.limbs_of.ensures at (c.bits_down.ensures.each j l) in
    read
    ∙ ap (λ (x : ℕ). x % 4294967296) (units_moved c.in-Regular.magnitude c.in-Regular.weight (column_weight k) _ (omega (arith, ints, c.column_start.ensures)))
    ∙ ap (λ t. digit_at k (spelled t)) (sym c.in-Regular.is)
