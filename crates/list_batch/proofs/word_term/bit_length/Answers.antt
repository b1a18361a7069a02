-- A word without its leading zeros.
use Rattle.std.proofs.Common.{rules}
use Rattle.exact.proofs.BitLength.{size_leading}
use Rattle.list_batch.proofs.word_term.bit_length.Goals as goal

pub returns-clause-length : goal.returns-clause-length
returns-clause-length c = search (rules, size_leading)
