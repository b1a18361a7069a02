use Rattle.std.proofs.Common.{ap, subst, ◌∙◌, refl}
use Rattle.answers.specs.Asked.{question}
use Rattle.ask_history.specs.Traced.{Traced}
use Rattle.any_grid.specs.AnyGrids.{spacing_of, widest_of}
use Rattle.any_grid.specs.Asked.{told, meaning}
use Rattle.text_call.specs.Letters.{mode_of_run}
use Rattle.text_call.proofs.Standings.{ask_made}
use Rattle.text_call.proofs.calls.Calls.ask.Goals as goal

pub returns : goal.returns
returns c =
    let grid = c.in_ok-grid.field-0 in
    λ p s.
    let set = subst (Traced p.trace) c.in_default.is s.traced in
    ask_made p c.args.terms.now c.args.self.now _ (told c.args.grid) (meaning (spacing_of grid) (widest_of grid)) (mode_of_run c.args.letter.now) _ c.call_moved.result c.in_ok-answer.answer s
    set.state c.if-self-ge-MOST_ASKS.false (ap told c.in_ok-grid.was)
    (λ i. question ((c.batch-batch.ensures ∙ s.terms) i) (spacing_of grid) (widest_of grid) (c.mode_of_run.ensures i) 128)
    c.call_moved.ensures c.in_ok-answer.was refl refl
