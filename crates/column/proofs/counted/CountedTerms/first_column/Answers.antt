-- All columns lie below the largest number of 32 bits.
use Rattle.std.proofs.Common.{◌∙◌}
use Rattle.column.proofs.Nearness.{first_of_all}
use Rattle.column.proofs.counted.CountedTerms.first_column.Goals as goal

pub returns : goal.returns
returns g c = c.next_column.ensures.next ∙ first_of_all (g.B.Batch.terms c.args.batch.now) (g.B.Batch.limited c.args.batch.now) c.args.self.now.terms.items
