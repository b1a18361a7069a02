use Rattle.std.proofs.Common.{◌≡◌, ◌≤ℤ◌, arith, w32, SFits, to_z, of_z, rules}
use Rattle.std.proofs.lemmas.Int.{ints}
use Rattle.exact.specs.Dyadic.{dyadic, exponent}
use Rattle.batch.specs.Term.{column_weight}
use Rattle.partial_sum.specs.Holding.{window}
use Rattle.partial_sum.proofs.Shortness.{sum_on_grid}
use Rattle.partial_sum.proofs.sum.PartialSum.too_short_to_decide.Goals as goal

pub returns-then-self-clause-member : goal.returns-then-self-clause-member
returns-then-self-clause-member g c =
    let p = c.args.self.now in
    let grid = c.args.grid.now in
    let u = g.G.Grid.spacing grid in
    let lowest : SFits w32 p.lowest = search rules in
    let column : SFits w32 p.column = search rules in
    let here : p.column ≡ p.lowest = omega (arith, ints, c.if-self.true) in
    let top = to_z w32 (of_z w32 c.top_exponent.result) in
    let high : SFits w32 c.top_exponent.result = search rules in
    let spaced : SFits w32 c.spacing.result = search rules in
    let upto : exponent (dyadic (window p) (column_weight p.lowest)) ≤ℤ top = omega (arith, ints, c.top_exponent.ensures) in
    λ test. (let fine : u top ≤ℤ column_weight p.lowest = omega (arith, ints, test, c.spacing.ensures, c.requires.from, c.requires.upto) in sum_on_grid u (g.G.Grid.widest grid) (g.G.Grid.lawful grid) p here top upto fine)
