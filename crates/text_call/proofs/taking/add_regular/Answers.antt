use Rattle.std.proofs.Common.{rules, ◌≡◌, ℤ, w64, Some, None, ◌++◌, ◌∷◌, [], sym, ◌∙◌, subst, to_z, of_z}
use Rattle.std.proofs.lemmas.Int.{to_z-of_z}
use Rattle.std.proofs.lemmas.Result.{err_from_is_err_and}
use Rattle.fields.specs.Held.{limbs_held}
use Rattle.text_terms.specs.Meaning.{term_fault, term_meant}
use Rattle.text_terms.specs.TermLists.{terms_of, push_fault}
use Rattle.text_call.proofs.Standings.{term_taken, term_refused}
use Rattle.text_call.proofs.taking.add_regular.Goals as goal

pub returns-in_err-push_regular-clause-made : goal.returns-in_err-push_regular-clause-made
returns-in_err-push_regular-clause-made c =
    let gives = err_from_is_err_and c.from_residual.result c.from_residual.ensures.1 in
    let term = c.args.term in
    let limbs = limbs_held term.limbs in
    let before = c.args.terms.now in
    let fault = c.in_err-push_regular.field-0.0 in
    let whole : to_z w64 (of_z w64 term.exponent) ≡ term.exponent = to_z-of_z w64 term.exponent (search rules) in
    let told = subst (λ (e : ℤ). Some fault ≡ push_fault (terms_of before) (term_fault e term.precision limbs)) whole c.in_err-push_regular.ensures.refuses in
    λ p s. rw (gives.1, gives.2) (
    term_refused p before c.args.calls.now (term_fault term.exponent term.precision limbs) (term_meant term.negative term.exponent term.precision limbs) fault s (sym c.are_begun.ensures ∙ c.if-are_begun.false) told
    )

pub returns-clause-made : goal.returns-clause-made
returns-clause-made c =
    let term = c.args.term in
    let limbs = limbs_held term.limbs in
    let before = c.args.terms.now in
    let after = c.push_regular.new.self in
    let whole : to_z w64 (of_z w64 term.exponent) ≡ term.exponent = to_z-of_z w64 term.exponent (search rules) in
    let told = subst (λ (e : ℤ). None ≡ push_fault (terms_of before) (term_fault e term.precision limbs)) whole c.in_ok-push_regular.ensures.refuses in
    let more = subst (λ (e : ℤ). terms_of after ≡ terms_of before ++ term_meant term.negative e term.precision limbs ∷ []) whole c.in_ok-push_regular.ensures.terms in
    λ p s. term_taken p before after c.args.calls.now (term_fault term.exponent term.precision limbs) (term_meant term.negative term.exponent term.precision limbs) s (sym c.are_begun.ensures ∙ c.if-are_begun.false) told more
