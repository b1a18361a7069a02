-- One ask: refused for its mode or by the check, or answered by what is computed.
use Rattle.std.proofs.Common.{◌≡◌, length, Ok, rules}
use Rattle.sheet.specs.Shown.{shown}
use Rattle.answers.specs.Asked.{Question, question, asked}
use Rattle.answers.specs.Laws.{Proper}
use Rattle.ask.specs.Told.{told}
use Rattle.ask.proofs.Asking.{ask_right, ask_encloses, ask_answers, ask_reached}
use Rattle.ask.proofs.single.ask.Goals as goal

pub returns-in_err-mode-clause-reached : goal.returns-in_err-mode-clause-reached
returns-in_err-mode-clause-reached g c h traced =
    let q : Question = question (g.B.Batch.terms c.args.batch.now) (g.G.Grid.spacing c.args.grid.now) (g.G.Grid.widest c.args.grid.now) c.args.mode (length c.args.limbs.now) in
    let proper : Proper q = record { batchable = g.B.Batch.limited c.args.batch.now; lawful = g.G.Grid.lawful c.args.grid.now } in
    ask_reached h c.args.sheet.now traced q (told c.from_residual.result c.args.limbs.now) proper (search rules)

pub returns-in_err-check-clause-answers : goal.returns-in_err-check-clause-answers
returns-in_err-check-clause-answers g c h traced =
    let q : Question = question (g.B.Batch.terms c.args.batch.now) (g.G.Grid.spacing c.args.grid.now) (g.G.Grid.widest c.args.grid.now) c.args.mode (length c.args.limbs.now) in
    ask_answers h c.args.sheet.now traced q (told c.from_residual-in_err-check.result c.args.limbs.now) (search rules)

pub returns-in_err-check-clause-reached : goal.returns-in_err-check-clause-reached
returns-in_err-check-clause-reached g c h traced =
    let q : Question = question (g.B.Batch.terms c.args.batch.now) (g.G.Grid.spacing c.args.grid.now) (g.G.Grid.widest c.args.grid.now) c.args.mode (length c.args.limbs.now) in
    let proper : Proper q = record { batchable = g.B.Batch.limited c.args.batch.now; lawful = g.G.Grid.lawful c.args.grid.now } in
    ask_reached h c.args.sheet.now traced q (told c.from_residual-in_err-check.result c.args.limbs.now) proper (search rules)

pub returns : goal.returns
returns g c =
    let q : Question = question (g.B.Batch.terms c.args.batch.now) (g.G.Grid.spacing c.args.grid.now) (g.G.Grid.widest c.args.grid.now) c.args.mode (length c.args.limbs.now) in
    let proper : Proper q = record { batchable = g.B.Batch.limited c.args.batch.now; lawful = g.G.Grid.lawful c.args.grid.now } in
    let r = Ok c.compute.result in
    let ls = c.compute.new.limbs in
    let shows = shown c.args.sheet.now.marks in
    let equals : told r ls ≡ asked shows q = search rules in
    record {
      equals = equals;
      refused = search rules;
      right = ask_right shows q proper r ls equals;
      encloses = ask_encloses shows q proper r ls equals;
      answers = λ h traced. ask_answers h c.args.sheet.now traced q (told r ls) equals;
      reached = λ h traced. ask_reached h c.args.sheet.now traced q (told r ls) proper equals;
    }
