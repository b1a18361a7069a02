-- The last word of a line is all of what is left.
use Rattle.std.proofs.Common.{sym, arith, take_all}
use Rattle.vectors.proofs.words.Words.next.Goals as goal

pub returns-in-None-clause-front : goal.returns-in-None-clause-front
returns-in-None-clause-front c = sym (take_all _ _ (omega arith))
