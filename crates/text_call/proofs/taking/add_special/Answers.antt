use Rattle.std.proofs.Common.{None, sym, ◌∙◌}
use Rattle.text_terms.specs.Meaning.{special_term}
use Rattle.text_call.proofs.Standings.{term_taken}
use Rattle.text_call.proofs.taking.add_special.Goals as goal

pub returns-clause-made : goal.returns-clause-made
returns-clause-made c = λ p s.
    term_taken p c.args.terms.now c.push.new.self c.args.calls.now None (special_term c.args.term) s (sym c.are_begun.ensures ∙ c.if-are_begun.false) c.in_ok-push.ensures.refuses c.in_ok-push.ensures.terms
