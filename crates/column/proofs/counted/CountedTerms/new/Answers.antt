-- One place more, counted or not; at the end the list stands for all parts, none of them 0.
use Rattle.std.proofs.Common.{◌<◌, length, sym, ap, ap₂, ◌∙◌, subst, arith}
use Rattle.std.proofs.lemmas.List.{take_all}
use Rattle.sheet.specs.Shown.{shown}
use Rattle.survey.specs.Kinds.{counted_kind}
use Rattle.column.specs.Parts.{Regular}
use Rattle.column.specs.PartsOf.{parts_of}
use Rattle.column.proofs.Counting.{is_below_0, listed_one, listed_none, parts_regular}
use Rattle.column.proofs.counted.CountedTerms.new.Goals as goal
use Rattle.column.proofs.counted.CountedTerms.new.Goals.{then-is_regular, else-is_regular}

pub loop-place-preserved : goal.loop-place-preserved
loop-place-preserved g c =
    let ts = g.B.Batch.terms c.args.batch.now in
    let marks = shown c.args.marks.now in
    let i = c.loop-place.place in
    let in_list : i < length ts = omega (arith, c.loop-place-test.true, c.count-place-end.ensures) in
    let kind = c.counted_kind-kind.ensures ∙ ap₂ counted_kind c.at.ensures c.kind.ensures in
    elim c.if-is_regular.branch [
      | then-is_regular w ↦
          let stands = listed_one ts marks i in_list c.counted_kind-kind.result kind c.loop-place.terms.items w.push.new.self.items w.listed_term-term.result c.loop-place.invariant.stands
          (sym c.is_regular.ensures ∙ w.if-is_regular.true) w.listed_term-term.ensures.place (w.listed_term-term.ensures.sign ∙ w.eq.ensures ∙ is_below_0 c.counted_kind-kind.result) w.push.ensures.items in
          rw w.terms-is record { stands = stands; few = omega (arith, w.push.ensures.len, c.loop-place.invariant.few) }
      | else-is_regular w ↦
          let stands = listed_none ts marks i in_list c.counted_kind-kind.result kind c.loop-place.terms.items c.loop-place.invariant.stands (sym c.is_regular.ensures ∙ w.if-is_regular.false) in
          rw w.terms-is record { stands = stands; few = omega (arith, c.loop-place.invariant.few) }
    ]

pub returns : goal.returns
returns g c =
    let ts = g.B.Batch.terms c.args.batch.now in
    let marks = shown c.args.marks.now in
    let all = c.loop-place.invariant.stands ∙ ap (parts_of marks) (take_all c.loop-place.place ts (omega (arith, c.loop-place-test.false, c.count-place-end.ensures))) in
    record { parts = all; regular = subst Regular (sym all) (parts_regular marks 0 ts (g.B.Batch.limited c.args.batch.now).each_limited) }
