-- Each ask gets what the question fixes, and a refusal leaves the limbs as the loop found them.
use Rattle.std.proofs.Common.{◌≡◌, true, length, is_err}
use Rattle.sheet.specs.Shown.{shown}
use Rattle.answers.specs.Asked.{question, asked}
use Rattle.ask.specs.Told.{told}
use Rattle.whole_ask.proofs.asking.repeat_ask.Given as goal

abbrev pub invariant-loop : goal.invariant-loop
invariant-loop g l =
    (told l.result l.limbs ≡ asked (shown l.sheet.marks) (question (g.B.Batch.terms l.batch) (g.G.Grid.spacing l.grid) (g.G.Grid.widest l.grid) l.mode (length l.limbs)))
    × (is_err l.result ≡ true → l.limbs ≡ l.initial.limbs)
