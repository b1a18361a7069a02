use Rattle.text_lines.proofs.Cutting.{lines_are_text}
use Rattle.text_lines.proofs.lines_stand.Goals as goal

pub returns : goal.returns
returns c = lines_are_text
