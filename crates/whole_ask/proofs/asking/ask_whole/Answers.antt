-- The refusal of the first step that is refused, or the answer of the ask.
use Rattle.std.proofs.Common.{length, sym, ◌∙◌}
use Rattle.grid.specs.Spacing.{free}
use Rattle.limb_batch.specs.Records.{record_terms}
use Rattle.sheet.specs.Shown.{shown}
use Rattle.answers.specs.Asked.{answered}
use Rattle.ask.specs.Told.{published, fault_refusal}
use Rattle.whole_ask.specs.declared.fault.WholeFault.TheVariants.{Batch, Grid, Ask}
use Rattle.whole_ask.proofs.Faults.{handed_on}
use Rattle.whole_ask.proofs.Replies.{batch_refused, grid_refused, both_taken, all_in}
use Rattle.whole_ask.proofs.asking.ask_whole.Goals as goal

pub returns-in_err-batch-clause-equals : goal.returns-in_err-batch-clause-equals
returns-in_err-batch-clause-equals c =
    let f = c.in_err-batch.field-0.0 in
    handed_on (Batch f) c.from_residual.result _ c.from_residual.ensures.1
    ∙ sym (batch_refused c.args.terms.now c.args.pool.now c.args.width c.args.mode (length c.args.limbs.now) f (sym c.in_err-batch.ensures.refuses))

pub returns-in_err-grid-clause-equals : goal.returns-in_err-grid-clause-equals
returns-in_err-grid-clause-equals c =
    let f = c.in_err-grid.field-0.0 in
    handed_on (Grid f) c.from_residual-in_err-grid.result _ c.from_residual-in_err-grid.ensures.1
    ∙ sym (grid_refused c.args.terms.now c.args.pool.now c.args.width c.args.mode (length c.args.limbs.now) f
    (sym c.in_ok-batch.ensures.refuses) (sym c.in_err-grid.ensures.refuses))

pub returns-in_err-repeat_ask-clause-equals : goal.returns-in_err-repeat_ask-clause-equals
returns-in_err-repeat_ask-clause-equals c =
    let ts = record_terms c.in_ok-batch.batch.pool.now c.in_ok-batch.batch.records.now in
    let w = c.in_ok-grid.grid.width in
    let n = length c.args.limbs.now in
    let f = c.in_err-repeat_ask.field-0.0 in
    handed_on (Ask f) c.from_residual-in_err-repeat_ask.result _ c.from_residual-in_err-repeat_ask.ensures.1
    ∙ all_in (shown c.in_ok-sheet.sheet.marks) c.count.result ts (free w) w c.args.mode n _ c.in_ok-sheet.ensures c.count.ensures c.in_err-repeat_ask.ensures.equals
    ∙ sym (both_taken c.args.terms.now c.args.pool.now c.args.width c.args.mode n ts w
    (sym c.in_ok-batch.ensures.refuses) (sym c.in_ok-grid.ensures.refuses) (sym c.in_ok-batch.ensures.means) (sym c.in_ok-grid.ensures.means.1))

pub returns-clause-equals : goal.returns-clause-equals
returns-clause-equals c =
    let ts = record_terms c.in_ok-batch.batch.pool.now c.in_ok-batch.batch.records.now in
    let w = c.in_ok-grid.grid.width in
    let n = length c.args.limbs.now in
    all_in (shown c.in_ok-sheet.sheet.marks) c.count.result ts (free w) w c.args.mode n (answered (published c.in_ok-repeat_ask.field-0 c.repeat_ask.new.limbs)) c.in_ok-sheet.ensures c.count.ensures
    c.in_ok-repeat_ask.ensures.equals
    ∙ sym (both_taken c.args.terms.now c.args.pool.now c.args.width c.args.mode n ts w
    (sym c.in_ok-batch.ensures.refuses) (sym c.in_ok-grid.ensures.refuses) (sym c.in_ok-batch.ensures.means) (sym c.in_ok-grid.ensures.means.1))
