-- What the check before an ask tells of its reply.
use Rattle.std.specs.Prelude.{ℕ, Ok, Err, Result}
use Rattle.grid.specs.Rounding.{Mode}
use Rattle.sheet.specs.declared.mark.Mark.{Mark}
use Rattle.answers.specs.Published.{answer}
use Rattle.answers.specs.Asked.{Question, Reply, refused, answered}
use Rattle.ask.specs.Told.{fault_refusal}
use Rattle.ask.specs.declared.fault.AskFault.{AskFault}

-- the reply that a check foretells of an ask in the mode m: the refusal that it found, or the answer
abbrev pub foretold : {T : Type 0} → Result T AskFault → Mode → (ℕ → Mark) → Question → Reply
foretold (Err f) m marks q = refused (fault_refusal f)
foretold (Ok t) m marks q = answered (answer marks q.terms q.spacing m q.limbs)
