use Rattle.std.proofs.Common.{ℕ, min, List, replicate, Err, Result, sym, ap, ◌∙◌, rules}
use Rattle.std.proofs.lemmas.List.{drop-replicate}
use Rattle.std.proofs.lemmas.Slice.{drop-append-drop}
use Rattle.std.proofs.lemmas.Result.{err_from_is_err_and}
use Rattle.answers.specs.Asked.{Question, question}
use Rattle.ask.specs.declared.answer.Answer.{Answer}
use Rattle.ask.specs.declared.fault.AskFault.{AskFault}
use Rattle.ask.specs.Told.{told}
use Rattle.ask_history.specs.Data.{reply_told}
use Rattle.ask_history.proofs.Answering.{ask_law}
use Rattle.ask_history.proofs.asking.ask_about.Goals as goal

pub returns-in_err-answer : goal.returns-in_err-answer
returns-in_err-answer g c =
    let q : ℕ → Question = λ n. question (g.B.Batch.terms c.args.batch.now) (g.G.Grid.spacing c.args.wanted.grid) (g.G.Grid.widest c.args.wanted.grid) c.args.wanted.mode n in
    let ls : List ℕ = c.ask.new.limbs in
    let p = err_from_is_err_and c.from_residual.result c.from_residual.ensures.1 in
    ask_law c.args.sheet.now q _ (min c.args.wanted.limbs 128) _ c.ask.result ls (search rules)
    (ap reply_told (p.1 ∙ ap Err p.2) ∙ ap (λ (r : Result Answer AskFault). told r ls) (sym c.in_err-answer.was))
    c.ask.ensures.answers c.ask.ensures.reached

pub invariant_of-result-clause-within : goal.invariant_of-result-clause-within
invariant_of-result-clause-within g c = search rules

pub invariant_of-result-clause-cleared : goal.invariant_of-result-clause-cleared
invariant_of-result-clause-cleared g c =
    let k = c.min-lent.result in
    drop-append-drop k (replicate 128 0) c.ask.new.limbs k (search rules) (search rules) ∙ drop-replicate k 128 0
