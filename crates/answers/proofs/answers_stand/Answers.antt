use Rattle.answers.proofs.Right.{answers_right}
use Rattle.answers.proofs.Enclosing.{answers_enclose}
use Rattle.answers.proofs.Examples.{entries_hold}
use Rattle.answers.proofs.answers_stand.Goals as goal

pub returns : goal.returns
returns c = record { right = answers_right; enclose = answers_enclose; entries = entries_hold }
