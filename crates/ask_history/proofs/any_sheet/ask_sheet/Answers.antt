use Rattle.std.proofs.Common.{List, [], map, get_or, Err, sym, subst}
use Rattle.batch.specs.Term.{Term}
use Rattle.sheet.specs.Model.{asking}
use Rattle.history.specs.declared.any_sheet.Sheet.{Sheet}
use Rattle.history.specs.declared.outcome.CallFault.TheVariants.{OutOfTurn}
use Rattle.answers.specs.Asked.{Question}
use Rattle.ask_history.specs.declared.outcome.CallFault.TheVariants.{Call}
use Rattle.ask_history.specs.Data.{question_of}
use Rattle.ask_history.specs.Law.{CallLaw}
use Rattle.ask_history.proofs.Answering.{named_batchable}
use Rattle.ask_history.proofs.Calling.{ask_out_of_turn}
use Rattle.ask_history.proofs.any_sheet.ask_sheet.Goals as goal

pub returns-in-Open : goal.returns-in-Open
returns-in-Open g c =
    let batches : List (List Term) = map (λ b. g.B.Batch.terms b.now) c.args.batches.now in
    let q : Question = question_of g.G.Grid.spacing g.G.Grid.widest (get_or batches c.args.wanted.batch []) c.args.wanted in
    subst (λ (s : Sheet). CallLaw s (asking q) s (Err (Call OutOfTurn))) (sym c.in-Open.is)
    (ask_out_of_turn c.in-Open.field-0 q (record {
      batchable = named_batchable (λ b. g.B.Batch.terms b.now) (λ b. g.B.Batch.limited b.now) c.args.batches.now c.args.wanted.batch;
      lawful = g.G.Grid.lawful c.args.wanted.grid;
    }))
