use Rattle.std.proofs.Common.{◌≡◌, ◌<◌, min, length, take, sym, ap, ◌∙◌, arith, rules}
use Rattle.std.proofs.lemmas.List.{get_or-map, get_or-take, length-map, length-take-le}
use Rattle.sheet.specs.Model.{undoing}
use Rattle.history.specs.declared.call.SheetCall.TheVariants.{Mark}
use Rattle.history.specs.Data.{call_of, calls_of}
use Rattle.history.proofs.Entering.{law_none, law_more}
use Rattle.history.proofs.run.run.Goals as goal

pub loop-i-init : goal.loop-i-init
loop-i-init c = law_none c.args.outcomes.now c.new-sheet.result c.new-sheet.ensures

pub loop-i-preserved : goal.loop-i-preserved
loop-i-preserved c =
    let calls = c.args.calls.now in
    let i = c.loop-i.i in
    let n = c.min-turns.result in
    let turns : c.min-turns.result ≡ min (length c.args.calls.now) (length c.args.outcomes.now) = search rules in
    let all : length (take c.min-turns.result c.args.calls.now) ≡ c.min-turns.result = length-take-le n calls (omega arith) in
    let turn : c.loop-i.i < c.min-turns.result = omega (arith, all, c.loop-i-test.true) in
    let within : c.loop-i.i < length c.args.calls.now = omega arith in
    let room : c.loop-i.i < length c.loop-i.outcomes = omega (arith, c.loop-i.auto.outcomes) in
    let reached = c.loop-i.invariant.reaches in
    law_more (calls_of calls) i c.args.outcomes.now c.loop-i.outcomes c.loop-i.sheet c.call-next.result.0 _ c.call-next.result.1
    (omega (arith, length-map calls (call_of {Q = Unit {0}}))) room (get_or-map call_of calls i (Mark 0 0) undoing within ∙ ap (call_of {Q = Unit {0}}) (sym (get_or-take n calls i (Mark 0 0) turn)))
    (c.call-next.ensures.answers (take i (calls_of calls)) reached) (c.call-next.ensures.reaches (take i (calls_of calls)) reached) c.loop-i.invariant
