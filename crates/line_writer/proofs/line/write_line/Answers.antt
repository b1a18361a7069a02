use Rattle.line_writer.proofs.Writes.{then}
use Rattle.line_writer.proofs.line.write_line.Goals as goal

pub returns : goal.returns
returns c = then c.write_list-at.ensures c.put.ensures
