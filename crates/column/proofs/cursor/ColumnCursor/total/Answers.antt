-- The column lies in the run, which holds its total.
use Rattle.std.proofs.Common.{◌≡◌, ℕ, ◌^◌, ◌<◌, ℤ, ◌-ℤ◌, nat_abs, unsigned_abs, sym, ap, ◌∙◌, subst, arith, rules, w32, w64, SFits, to_z, of_z, pos}
use borrow.Author.Differences.{ints}
use Rattle.std.proofs.lemmas.Int.{to_z-of_z}
use Rattle.std.proofs.lemmas.List.{length-map}
use Rattle.exact.specs.Integers.{gap}
use Rattle.column.specs.ColumnCursor.{listed_parts}
use Rattle.column.specs.Columns.{column_total}
use Rattle.column.specs.Listed.{listed_part}
use Rattle.column.specs.Runs.{total_at}
use Rattle.column.proofs.Gathering.{total_small}
use Rattle.column.proofs.cursor.ColumnCursor.total.Goals as goal

pub overflow_cast-result : goal.overflow_cast-result
overflow_cast-result g c =
    let x = c.args.self.now in
    let top : SFits w32 x.run.top = search rules in
    let here : SFits w32 x.column = search rules in
    let t = to_z-of_z w32 x.run.top top in
    let k = to_z-of_z w32 x.column here in
    let within = x.within_run in
    let above = x.not_above in
    let short = x.short_run in
    let down : to_z w32 (of_z w32 (to_z w32 (of_z w32 x.run.top) -ℤ to_z w32 (of_z w32 x.column))) ≡ pos (gap x.run.top x.column) = omega (arith, ints, t, k) in
    let few : gap x.run.top x.column < 34 = omega (arith, ints) in
    rw down (search rules)

pub returns-clause-is : goal.returns-clause-is
returns-clause-is g c =
    let x = c.args.self.now in
    let top : SFits w32 x.run.top = search rules in
    let here : SFits w32 x.column = search rules in
    let t = to_z-of_z w32 x.run.top top in
    let k = to_z-of_z w32 x.column here in
    let place : unsigned_abs (to_z w32 (of_z w32 (to_z w32 (of_z w32 x.run.top) -ℤ to_z w32 (of_z w32 x.column)))) ≡ gap x.run.top x.column = omega (arith, ints, t, k, x.within_run, x.not_above, x.short_run) in
    let is : total_at x.run.totals (gap x.run.top x.column) ≡ column_total (listed_parts x) x.column = x.totalled x.column x.within_run x.not_above in
    let small : nat_abs (column_total (listed_parts x) x.column) < 2 ^ 42 = total_small (listed_parts x) x.column (omega (arith, length-map x.terms.items (listed_part (g.B.Batch.terms x.batch.now)), x.fits)) in
    let kept : to_z w64 (of_z w64 (column_total (listed_parts x) x.column)) ≡ column_total (listed_parts x) x.column = omega (arith, ints, small) in
    ap (λ (j : ℕ). to_z w64 (of_z w64 (total_at x.run.totals j))) place ∙ ap (λ (z : ℤ). to_z w64 (of_z w64 z)) is ∙ kept

pub returns-clause-small : goal.returns-clause-small
returns-clause-small g c =
    let x = c.args.self.now in
    subst (λ (z : ℤ). nat_abs z < 2 ^ 42) (sym (returns-clause-is g c)) (total_small (listed_parts x) x.column (omega (arith, length-map x.terms.items (listed_part (g.B.Batch.terms x.batch.now)), x.fits)))
