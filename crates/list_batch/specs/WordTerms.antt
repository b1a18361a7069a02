-- Terms whose magnitude is a number of one word of 64 bits.
use Rattle.batch.specs.Term.{Term, not_a_number, infinite, signed_zero, regular}
use Rattle.list_batch.specs.declared.word_term.WordTerm.{WordTerm}
use Rattle.list_batch.specs.declared.word_term.WordTerm.TheVariants.{NotANumber, Infinite, Zero, Regular}

-- the term that is spelled
abbrev pub spelled : WordTerm → Term
spelled NotANumber = not_a_number
spelled (Infinite s) = infinite s
spelled (Zero s) = signed_zero s
spelled (Regular s m q) = regular s m q
