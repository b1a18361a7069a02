use Rattle.std.proofs.Common.{◌≡◌, ℕ, ◌<◌, min, List, map, length, take, sym, ap, ◌∙◌, subst, arith, rules}
use Rattle.std.proofs.lemmas.List.{get_or-map, get_or-take, length-map, length-take-le}
use Rattle.batch.specs.Term.{Term}
use Rattle.sheet.specs.Model.{Call as CallOf, undoing}
use Rattle.answers.specs.Asked.{Question}
use Rattle.ask_history.specs.declared.call.Call.{Call}
use Rattle.ask_history.specs.Data.{call_of}
use Rattle.ask_history.specs.Law.{EntryLaw}
use Rattle.ask_history.proofs.Entering.{law_none, law_more}
use Rattle.ask_history.proofs.run.run.Goals as goal

pub loop-i-init : goal.loop-i-init
loop-i-init g c = law_none c.args.outcomes.now c.new_sheet-sheet.result c.new_sheet-sheet.ensures

pub loop-i-preserved : goal.loop-i-preserved
loop-i-preserved g c =
    let batches : List (List Term) = map (λ b. g.B.Batch.terms b.now) c.args.batches.now in
    let as_call : Call g.row.G.Denot → CallOf Question = call_of g.G.Grid.spacing g.G.Grid.widest batches in
    let calls = c.args.calls.now in
    let i = c.loop-i.i in
    let n = c.min-turns.result in
    let x = c.wanted-item.result in
    let turns : c.min-turns.result ≡ min (length c.args.calls.now) (length c.args.outcomes.now) = search rules in
    let all : length (take c.min-turns.result c.args.calls.now) ≡ c.min-turns.result = length-take-le n calls (omega arith) in
    let turn : c.loop-i.i < c.min-turns.result = omega (arith, all, c.loop-i-test.true) in
    let within : c.loop-i.i < length c.args.calls.now = omega arith in
    let room : c.loop-i.i < length c.loop-i.outcomes = omega (arith, c.loop-i.auto.outcomes) in
    let long : length (map as_call calls) ≡ length calls = length-map calls as_call in
    law_more (map as_call calls) i c.args.outcomes.now c.loop-i.outcomes c.loop-i.sheet c.call-next.result.0 (as_call x) c.call-next.result.1
    (rw long within) room (get_or-map as_call calls i x undoing within ∙ ap as_call (sym (c.wanted-item.is ∙ get_or-take n calls i x turn))) c.call-next.ensures c.loop-i.invariant

pub returns : goal.returns
returns g c =
    let batches : List (List Term) = map (λ b. g.B.Batch.terms b.now) c.args.batches.now in
    let calls = map (call_of g.G.Grid.spacing g.G.Grid.widest batches) c.args.calls.now in
    let turns : c.min-turns.result ≡ min (length c.args.calls.now) (length c.args.outcomes.now) = search rules in
    let all : length (take c.min-turns.result c.args.calls.now) ≡ c.min-turns.result = length-take-le c.min-turns.result c.args.calls.now (omega arith) in
    let last : c.loop-i.i ≡ min (length c.args.calls.now) (length c.args.outcomes.now) = omega (arith, all, c.loop-i.auto.i-end, c.loop-i-test.false) in
    subst (λ (n : ℕ). EntryLaw (take n calls) c.args.outcomes.now c.loop-i.outcomes c.loop-i.sheet) last c.loop-i.invariant
