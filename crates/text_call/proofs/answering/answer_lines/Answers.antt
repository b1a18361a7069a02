use Rattle.std.proofs.Common.{ℕ, List, take, sym, refl, subst, ◌∙◌, eqb-true, arith}
use Rattle.std.proofs.lemmas.List.{nil_from_length}
use Rattle.text_lines.specs.Views.{line_view}
use Rattle.text_call.specs.Progress.{start}
use Rattle.text_call.proofs.Past.{Past, past_start}
use Rattle.text_call.proofs.Ends.{past_end}
use Rattle.text_call.proofs.Loop.{behind, drop-wrote, byte-le, between-lawful, between-batch, refusal_written, line_taken}
use Rattle.text_call.proofs.answering.answer_lines.Goals as goal

pub loop-rest-init : goal.loop-rest-init
loop-rest-init c = record {
  progress = start;
  stands = c.new-calls.ensures c.new-terms.result c.new-terms.ensures.terms;
  past = past_start c.args.text.now;
  room = omega arith;
  limbs = let none = c.new-terms.ensures.limbs in omega (arith, c.requires.short);
  lines = omega (arith, c.requires.short);
  whole = refl;
  untouched = refl;
}

pub byte-requires : goal.byte-requires
byte-requires c =
    let b = c.loop-rest.invariant in
    let le = byte-le (line_view c.first_line.result.0) b.progress c.take_line.new.terms c.take_line.new.calls c.in-Err.fault (c.in-Err.ensures.took b.progress b.stands) in
    let shorter = c.first_line.ensures.shorter in
    let lines = b.lines in
    omega arith

pub returns-in-Err-clause-equals : goal.returns-in-Err-clause-equals
returns-in-Err-clause-equals c =
    let b = c.loop-rest.invariant in
    sym (refusal_written c.args.text.now c.args.answer.now c.loop-rest.terms c.loop-rest.calls c.loop-rest.rest.now c.loop-rest.number c.loop-rest.at c.loop-rest.answer b
    (line_view c.first_line.result.0) c.first_line.result.1.now c.first_line.ensures.lines c.take_line.new.terms c.take_line.new.calls c.write_refusal.new.out c.write_refusal.result
    c.in-Err.fault (c.in-Err.ensures.took b.progress b.stands) c.number.result c.byte.result c.number.ensures c.byte.ensures c.write_refusal.ensures.line).equals

pub returns-in-Err-clause-law : goal.returns-in-Err-clause-law
returns-in-Err-clause-law c =
    let b = c.loop-rest.invariant in
    (refusal_written c.args.text.now c.args.answer.now c.loop-rest.terms c.loop-rest.calls c.loop-rest.rest.now c.loop-rest.number c.loop-rest.at c.loop-rest.answer b
    (line_view c.first_line.result.0) c.first_line.result.1.now c.first_line.ensures.lines c.take_line.new.terms c.take_line.new.calls c.write_refusal.new.out c.write_refusal.result
    c.in-Err.fault (c.in-Err.ensures.took b.progress b.stands) c.number.result c.byte.result c.number.ensures c.byte.ensures c.write_refusal.ensures.line).law

pub returns-in-Err-clause-untouched : goal.returns-in-Err-clause-untouched
returns-in-Err-clause-untouched c =
    let w = c.write_refusal.ensures.line in
    let ends = w.ends in
    drop-wrote c.loop-rest.answer c.loop-rest.at _ c.write_refusal.new.out c.write_refusal.result w ∙ behind c.loop-rest.answer c.args.answer.now c.loop-rest.at c.write_refusal.result c.loop-rest.invariant.untouched (omega arith)

pub loop-rest-preserved : goal.loop-rest-preserved
loop-rest-preserved c =
    let b = c.loop-rest.invariant in
    line_taken c.args.text.now c.args.answer.now c.loop-rest.terms c.loop-rest.calls c.loop-rest.rest.now c.loop-rest.number c.loop-rest.at c.loop-rest.answer b
    (line_view c.first_line.result.0) c.first_line.result.1.now c.first_line.ensures.lines c.take_line.new.terms c.take_line.new.calls c.write_reply-at.new.answer c.write_reply-at.result
    c.in-Ok.reply (c.in-Ok.ensures.took b.progress b.stands) c.first_line.ensures.shorter c.first_line.ensures.goes_on c.in-Ok.ensures.limbs
    c.write_reply-at.ensures.wrote c.write_reply-at.ensures.short c.write_reply-at.auto.answer

pub returns-clause-law : goal.returns-clause-law
returns-clause-law c =
    let b = c.loop-rest.invariant in
    let out = take c.loop-rest.at c.loop-rest.answer in
    let none = nil_from_length c.loop-rest.rest.now (eqb-true _ _ (sym c.is_empty.ensures ∙ c.loop-rest-test.false)) in
    (past_end c.args.text.now c.loop-rest.number b.progress out (subst (λ (rest : List ℕ). Past c.args.text.now rest c.loop-rest.number b.progress out) none b.past)
    (between-lawful c.args.text.now c.args.answer.now c.loop-rest.terms c.loop-rest.calls c.loop-rest.rest.now c.loop-rest.number c.loop-rest.at c.loop-rest.answer b)
    (between-batch c.args.text.now c.args.answer.now c.loop-rest.terms c.loop-rest.calls c.loop-rest.rest.now c.loop-rest.number c.loop-rest.at c.loop-rest.answer b)).law
