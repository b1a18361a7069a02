-- A fault that is handed on is told as its refusal.
use Rattle.std.proofs.Common.{◌≡◌, ℕ, List, IsErrAnd, Err, Result, ap, ◌∙◌}
use Rattle.std.proofs.lemmas.Result.{err_from_is_err_and}
use Rattle.answers.specs.Asked.{refused}
use Rattle.ask.specs.declared.answer.Answer.{Answer}
use Rattle.whole_ask.specs.Told.{fault_refusal, told_whole}
use Rattle.whole_ask.specs.declared.fault.WholeFault.{WholeFault}

pub handed_on : (f : WholeFault) (r : Result Answer WholeFault) (ls : List ℕ) → IsErrAnd r (λ y. y ≡ f) → told_whole r ls ≡ refused (fault_refusal f)
handed_on f r ls exit = let p = err_from_is_err_and r exit in ap (λ (x : Result Answer WholeFault). told_whole x ls) (p.1 ∙ ap Err p.2)
