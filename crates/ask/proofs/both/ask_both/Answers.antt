-- Two asks: refused by the first check or the second, or both answered.
use Rattle.std.proofs.Common.{length, Ok, sym, refl, ap, ◌∙◌, inl, inr}
use Rattle.std.proofs.lemmas.Bool.{false≢true}
use Rattle.sheet.specs.Shown.{shown}
use Rattle.answers.specs.Asked.{question, answered}
use Rattle.grid.specs.Rounding.{downward, upward}
use Rattle.ask.specs.Both.{BothAsked}
use Rattle.ask.proofs.Asking.{as_read}
use Rattle.ask.proofs.Enclosing.{both_refused, both_right, both_enclose, both_reached}
use Rattle.ask.proofs.both.ask_both.Goals as goal

pub returns-in_err-check-clause-both : goal.returns-in_err-check-clause-both
returns-in_err-check-clause-both g c =
    let ts = g.B.Batch.terms c.args.batch.now in
    let u = g.G.Grid.spacing c.args.grid.now in
    let w = g.G.Grid.widest c.args.grid.now in
    let low = c.args.low.now in
    let high = c.args.high.now in
    both_refused (shown c.args.sheet.now.marks) (question ts u w 1 (length low)) (question ts u w 2 (length high)) c.in_err-check.field-0.0 c.from_residual.result low high c.from_residual.ensures.1
    (inl (sym (as_read _ _ c.width-width.result _ ts u 1 (length low) c.marks-marks.ensures.same c.width-width.ensures)
    ∙ c.in_err-check.ensures ts u 1 downward (sym c.count-terms.ensures) refl))

pub returns-in_err-check-clause-reached : goal.returns-in_err-check-clause-reached
returns-in_err-check-clause-reached g c =
    both_reached (g.B.Batch.terms c.args.batch.now) (g.G.Grid.spacing c.args.grid.now) (g.G.Grid.widest c.args.grid.now) (length c.args.low.now) (length c.args.high.now)
    (g.B.Batch.limited c.args.batch.now) (g.G.Grid.lawful c.args.grid.now) c.args.sheet.now c.from_residual.result c.args.low.now c.args.high.now (returns-in_err-check-clause-both g c)

pub returns-in_err-check-2-clause-both : goal.returns-in_err-check-2-clause-both
returns-in_err-check-2-clause-both g c =
    let ts = g.B.Batch.terms c.args.batch.now in
    let u = g.G.Grid.spacing c.args.grid.now in
    let w = g.G.Grid.widest c.args.grid.now in
    let low = c.args.low.now in
    let high = c.args.high.now in
    both_refused (shown c.args.sheet.now.marks) (question ts u w 1 (length low)) (question ts u w 2 (length high)) c.in_err-check-2.field-0.0 c.from_residual-in_err-check-2.result low high c.from_residual-in_err-check-2.ensures.1
    (inr (
      _,
      sym (as_read _ _ c.width-width.result _ ts u 1 (length low) c.marks-marks.ensures.same c.width-width.ensures)
          ∙ c.in_ok-check.ensures ts u 1 downward (sym c.count-terms.ensures) refl,
      sym (as_read _ _ c.width-width.result _ ts u 2 (length high) c.marks-marks.ensures.same c.width-width.ensures)
          ∙ c.in_err-check-2.ensures ts u 2 upward (sym c.count-terms.ensures) refl,
    ))

pub returns-in_err-check-2-clause-reached : goal.returns-in_err-check-2-clause-reached
returns-in_err-check-2-clause-reached g c =
    both_reached (g.B.Batch.terms c.args.batch.now) (g.G.Grid.spacing c.args.grid.now) (g.G.Grid.widest c.args.grid.now) (length c.args.low.now) (length c.args.high.now)
    (g.B.Batch.limited c.args.batch.now) (g.G.Grid.lawful c.args.grid.now) c.args.sheet.now c.from_residual-in_err-check-2.result c.args.low.now c.args.high.now (returns-in_err-check-2-clause-both g c)

pub returns : goal.returns
returns g c =
    let ts = g.B.Batch.terms c.args.batch.now in
    let u = g.G.Grid.spacing c.args.grid.now in
    let w = g.G.Grid.widest c.args.grid.now in
    let j = length c.args.low.now in
    let k = length c.args.high.now in
    let low = c.compute-down.new.limbs in
    let high = c.compute-up.new.limbs in
    let shows = shown c.args.sheet.now.marks in
    let r = Ok (c.compute-down.result, c.compute-up.result) in
    let both : BothAsked shows (question ts u w 1 j) (question ts u w 2 k) r low high = (
      sym (as_read _ _ c.width-width.result _ ts u 1 j c.marks-marks.ensures.same c.width-width.ensures)
          ∙ c.in_ok-check.ensures ts u 1 downward (sym c.count-terms.ensures) refl
          ∙ ap answered (sym c.compute-down.ensures),
      sym (as_read _ _ c.width-width.result _ ts u 2 k c.marks-marks.ensures.same c.width-width.ensures)
          ∙ c.in_ok-check-2.ensures ts u 2 upward (sym c.count-terms.ensures) refl
          ∙ ap answered (sym c.compute-up.ensures),
    ) in
    let limited = g.B.Batch.limited c.args.batch.now in
    let lawful = g.G.Grid.lawful c.args.grid.now in
    record {
      both = both;
      refused = λ h. absurd (false≢true h);
      right = both_right ts u w j k limited lawful shows r low high both;
      encloses = both_enclose ts u w j k limited lawful shows r low high both;
      reached = both_reached ts u w j k limited lawful c.args.sheet.now r low high both;
    }
