-- Without a first column there is no part. One turn: the ends round alike, and that settles the sum; or there is a next column, and the descent stands there.
use Rattle.std.proofs.Common.{rules, ◌≡◌, Some, sym, subst, ◌∙◌, ℤ, arith}
use Rattle.exact.specs.Limbs.{limbs_value}
use Rattle.grid.specs.Modes.{mode_of}
use Rattle.column.specs.ColumnCursor.{listed_parts, standing}
use Rattle.column.specs.Columns.{columns, Occupied}
use Rattle.column.specs.Walk.{first_column, Highest}
use Rattle.depth.proofs.Descending.{no_part}
use Rattle.depth.proofs.Turns as turn
use Rattle.depth.proofs.descent.descend.Goals as goal

pub returns-in_err-first : goal.returns-in_err-first
returns-in_err-first g c = rw c.from_residual.ensures (no_part (listed_parts c.args.terms.now) c.args.terms.now.regular (c.in_err-first.ensures.next ∙ c.requires.above))

pub loop-end-init : goal.loop-end-init
loop-end-init g c =
    let cs = c.args.terms.now in
    let u = g.G.Grid.spacing c.args.rounding.grid.now in
    let m = mode_of c.args.rounding.mode in
    let first : Some c.in_ok-first.first ≡ first_column (columns (listed_parts cs)) = c.in_ok-first.ensures.next ∙ c.requires.above in
    let w = c.column_work-total.ensures in
    record {
      stands = turn.starts_off cs u m c.in_ok-first.first c.column_work-total.result.0 c.column_work-total.result.1 c.new-descent.result first w.small w.starts w.below c.new-descent.ensures;
      same = w.same;
      there = w.at ∙ sym c.new-descent.ensures.at;
    }

pub overflow_cast-below : goal.overflow_cast-below
overflow_cast-below g c = let few = turn.reaching_fits c.args.terms.now _ _ _ _ c.loop-end.invariant in omega (arith, few)

pub round_ends-requires-clause-reached : goal.round_ends-requires-clause-reached
round_ends-requires-clause-reached g c = turn.reached c.args.terms.now _ _ _ _ c.loop-end.invariant c.next_column-in-loop-end.result c.next_column-in-loop-end.ensures.next

pub round_ends-requires-clause-reach : goal.round_ends-requires-clause-reach
round_ends-requires-clause-reach g c = turn.lowest_in c.args.terms.now _ _ _ _ c.loop-end.invariant

pub returns-in-Some : goal.returns-in-Some
returns-in-Some g c =
    let grid = c.args.rounding.grid.now in
    turn.settles c.args.terms.now _ _ _ _ c.loop-end.invariant
    c.next_column-in-loop-end.result c.next_column-in-loop-end.ensures.next (g.G.Grid.widest grid) (g.G.Grid.lawful grid)
    c.in-Some.end (limbs_value c.round_ends.new.answer) c.in-Some.ensures

pub column_work-total-requires-in-loop-end : goal.column_work-total-requires-in-loop-end
column_work-total-requires-in-loop-end g c =
    let ds = c.loop-end.terms in
    let passed = turn.passed c.args.terms.now _ _ _ _ c.loop-end.invariant c.next_column-in-loop-end.result c.next_column-in-loop-end.ensures.next c.in_default.ensures c.in-Some-column.next c.in-Some-column.is in
    let highest = subst (Highest (standing ds) (Occupied (listed_parts ds))) c.in-Some-column.is c.next_column-in-loop-end.ensures.highest in
    (search rules, subst (λ (k : ℤ). Highest (standing ds) (Occupied (listed_parts ds)) (Some k)) (sym passed) highest)

pub go_on-requires-clause-absorbs : goal.go_on-requires-clause-absorbs
go_on-requires-clause-absorbs g c =
    turn.absorbs c.args.terms.now _ _ _ _ c.loop-end.invariant
    c.next_column-in-loop-end.result c.next_column-in-loop-end.ensures.next c.in_default.ensures c.in-Some-column.next c.in-Some-column.is
    c.column_work-total-in-loop-end.result.0 c.column_work-total-in-loop-end.ensures.small

pub go_on-requires-clause-few : goal.go_on-requires-clause-few
go_on-requires-clause-few g c = turn.depth_in c.args.terms.now _ _ _ _ c.loop-end.invariant

pub loop-end-smaller : goal.loop-end-smaller
loop-end-smaller g c =
    turn.less_left c.args.terms.now _ _ _ _ c.loop-end.invariant
    c.next_column-in-loop-end.result c.next_column-in-loop-end.ensures.next c.in_default.ensures c.in-Some-column.next c.in-Some-column.is
    c.go_on.new.self c.go_on.ensures.at

pub loop-end-preserved : goal.loop-end-preserved
loop-end-preserved g c =
    let w = c.column_work-total-in-loop-end in
    turn.goes_on c.args.terms.now _ _ _ _ c.loop-end.invariant
    c.next_column-in-loop-end.result c.next_column-in-loop-end.ensures.next c.in_default.ensures c.in-Some-column.next c.in-Some-column.is
    w.new.self w.result.0 w.result.1 c.go_on.new.self w.ensures.small w.ensures.total w.ensures.below w.ensures.same w.ensures.at c.go_on.ensures
