use Rattle.term_writer.proofs.Restored.{all_restored}
use Rattle.term_writer.proofs.writing.write_term.Goals as goal

pub returns-then-line-lt-LEAST_BUFFER-clause-reads_back : goal.returns-then-line-lt-LEAST_BUFFER-clause-reads_back
returns-then-line-lt-LEAST_BUFFER-clause-reads_back g c = all_restored (g.B.Batch.terms c.args.batch.now) (g.B.Batch.limited c.args.batch.now).each_limited

pub returns-clause-reads_back : goal.returns-clause-reads_back
returns-clause-reads_back g c = all_restored (g.B.Batch.terms c.args.batch.now) (g.B.Batch.limited c.args.batch.now).each_limited
