-- A marked place that is found fits 32 bits.
use Rattle.std.proofs.Common.{sym, ◌∙◌, arith}
use Rattle.sheet.specs.Shown.{shown}
use Rattle.ask.proofs.FoundPlaces.{lowest_within}
use Rattle.ask.proofs.checking.check.Goals as goal

pub overflow_cast-result : goal.overflow_cast-result
overflow_cast-result c =
    let h = lowest_within (shown c.args.marks.now) c.args.terms c.in-Some.place (sym c.in-Some.is ∙ c.lowest_marked_from.ensures) in
    omega arith
