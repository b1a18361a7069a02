-- One place more, counted or not; at the end the list stands for all parts, none of them 0, and all wait.
use Rattle.std.proofs.Common.{pos, ◌<◌, length, sym, ap, ap₂, ◌∙◌, subst, arith}
use borrow.Author.Differences.{ints}
use Rattle.std.proofs.lemmas.List.{take_all}
use Rattle.std.proofs.lemmas.List.Elements.{All-push}
use Rattle.sheet.specs.Shown.{shown}
use Rattle.survey.specs.Kinds.{counted_kind}
use Rattle.column.specs.Parts.{Regular}
use Rattle.column.specs.PartsOf.{parts_of}
use Rattle.exact.specs.Integers.{gap}
use Rattle.column.specs.Edges.{Spanning}
use Rattle.column.proofs.Counting.{is_below_0, listed_one, listed_none, parts_regular}
use Rattle.column.proofs.Nearness.{first_near, first_of_all, none_high}
use Rattle.column.proofs.RunTotals.{zeros}
use Rattle.column.proofs.cursor.ColumnCursor.new.Goals as goal
use Rattle.column.proofs.cursor.ColumnCursor.new.Goals.{then-is_regular, else-is_regular}

pub loop-place-preserved : goal.loop-place-preserved
loop-place-preserved g c =
    let ts = g.B.Batch.terms c.args.batch.now in
    let marks = shown c.args.marks.now in
    let i = c.loop-place.place in
    let in_list : i < length ts = omega (arith, c.loop-place-test.true, c.count-place-end.ensures) in
    let kind = c.counted_kind-kind.ensures ∙ ap₂ counted_kind c.at.ensures c.kind.ensures in
    elim c.if-is_regular.branch [
      | then-is_regular w ↦
          let all = w.push.new.self.items in
          let term = w.counted_term-term.result in
          let stands = listed_one ts marks i in_list c.counted_kind-kind.result kind c.loop-place.terms.items all term c.loop-place.invariant.stands
          (sym c.is_regular.ensures ∙ w.if-is_regular.true) w.counted_term-term.ensures.place (w.counted_term-term.ensures.sign ∙ w.eq.ensures ∙ is_below_0 c.counted_kind-kind.result) w.push.ensures.items in
          rw w.terms-is record {
            stands = stands;
            few = omega (arith, w.push.ensures.len, c.loop-place.invariant.few);
            spans = rw w.push.ensures.items (All-push (Spanning ts) c.loop-place.terms.items term c.loop-place.invariant.spans w.counted_term-term.ensures.spans);
          }
      | else-is_regular w ↦
          let stands = listed_none ts marks i in_list c.counted_kind-kind.result kind c.loop-place.terms.items c.loop-place.invariant.stands (sym c.is_regular.ensures ∙ w.if-is_regular.false) in
          rw w.terms-is record { stands = stands; few = omega (arith, c.loop-place.invariant.few); spans = c.loop-place.invariant.spans }
    ]

pub invariant_of-result : goal.invariant_of-result
invariant_of-result g c =
    let ts = g.B.Batch.terms c.args.batch.now in
    let limited = g.B.Batch.limited c.args.batch.now in
    let marks = shown c.args.marks.now in
    let xs = c.loop-place.terms.items in
    let all = c.loop-place.invariant.stands ∙ ap (parts_of marks) (take_all c.loop-place.place ts (omega (arith, c.loop-place-test.false, c.count-place-end.ensures))) in
    record {
      within_run = omega (arith, ints);
      not_above = omega (arith, ints);
      short_run = omega (arith, ints);
      fits = omega (arith, c.loop-place.invariant.few, c.loop-place.auto.place-end, c.count-place-end.ensures, limited.few);
      regular = subst Regular (sym all) (parts_regular marks 0 ts limited.each_limited);
      spans = c.loop-place.invariant.spans;
      zoned = record {
        order = omega arith;
        within = omega arith;
        passed = λ j d l u. absurd (omega arith);
        waiting = λ j d l u. let near = first_near ts limited _ (c.loop-place.invariant.spans j d u) in (omega (arith, ints, near), omega (arith, ints, near));
      };
      ends = λ j d l u. absurd (omega arith);
      totalled = λ k from upto. zeros 34 (gap (pos 2147483647) k) ∙ sym (none_high ts limited xs k (omega (arith, ints, from)));
    }

pub returns-clause-above : goal.returns-clause-above
returns-clause-above g c = first_of_all (g.B.Batch.terms c.args.batch.now) (g.B.Batch.limited c.args.batch.now) c.loop-place.terms.items
