-- The column's total is what the sum starts or goes on with.
use Rattle.std.proofs.Common.{◌≡◌, ℤ, sym, ap, ◌∙◌, subst, arith, rules, w32, w64, to_z, of_z}
use borrow.Author.Differences.{ints}
use Rattle.std.proofs.lemmas.Int.{to_z-of_z}
use Rattle.batch.specs.Term.{column_weight}
use Rattle.column.specs.Claims.{StartsWith, GoesOnWith}
use Rattle.column.specs.Columns.{column_total}
use Rattle.column.specs.ColumnCursor.{listed_parts, standing}
use Rattle.column.specs.Ends.{reaching_below}
use Rattle.column.proofs.Laws.{sum_starts, sum_goes_on}
use Rattle.column.proofs.Nearness.{occupied_near}
use Rattle.column.proofs.cursor.ColumnCursor.column_work.Given.{Over}
use Rattle.column.proofs.cursor.ColumnCursor.column_work.Goals as goal

pub go_down_to-requires : goal.go_down_to-requires
go_down_to-requires g c =
    let x = c.args.self.now in
    let near = occupied_near (g.B.Batch.terms x.batch.now) (g.B.Batch.limited x.batch.now) x.terms.items c.args.column c.requires.next.0 in
    let here = to_z-of_z w32 c.args.column c.ranges.column in
    (search rules, (omega (arith, ints, here, c.requires.next), omega (arith, ints, here, near.from)))

-- where the terms stand then
there : (g : Over) (c : goal.After-reaching g) → standing c.go_down_to.new.self ≡ c.args.column
there g c = c.go_down_to.ensures.at ∙ to_z-of_z w32 c.args.column c.ranges.column

total_is : (g : Over) (c : goal.After-reaching g) → to_z w64 (of_z w64 c.total.result) ≡ column_total (listed_parts c.args.self.now) c.args.column
total_is g c =
    let kept : to_z w64 (of_z w64 c.total.result) ≡ c.total.result = omega (arith, ints, c.total.ensures.small) in
    kept ∙ c.total.ensures.is ∙ ap (column_total (listed_parts c.go_down_to.new.self)) (there g c) ∙ c.go_down_to.ensures.same.totals c.args.column

pub returns-clause-total : goal.returns-clause-total
returns-clause-total g c = total_is g c

pub returns-clause-below : goal.returns-clause-below
returns-clause-below g c =
    c.reaching.ensures
    ∙ ap (λ (k : ℤ). reaching_below (listed_parts c.go_down_to.new.self) (column_weight k)) (there g c)
    ∙ c.go_down_to.ensures.same.reaching (column_weight c.args.column)

pub returns-clause-starts : goal.returns-clause-starts
returns-clause-starts g c = subst (StartsWith (listed_parts c.args.self.now) c.args.column) (sym (total_is g c)) (sum_starts (listed_parts c.args.self.now) c.args.column)

pub returns-clause-goes_on : goal.returns-clause-goes_on
returns-clause-goes_on g c = subst (GoesOnWith (listed_parts c.args.self.now) c.args.column) (sym (total_is g c)) (sum_goes_on (listed_parts c.args.self.now) c.args.column)
