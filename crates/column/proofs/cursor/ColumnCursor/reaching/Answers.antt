-- Those of the terms that have begun, and all that wait.
use Rattle.std.proofs.Common.{◌≡◌, ℕ, ◌+◌, ◌-◌, List, length, take, drop, ℤ, ap, ap₂, ◌∙◌, arith, rules, w32, SFits, ◌<ℤ◌}
use lib.Signed.{lt_z}
use borrow.Author.Differences.{ints}
use Rattle.std.specs.List.{filter}
use Rattle.std.proofs.lemmas.Int.{to_z-of_z}
use Rattle.batch.specs.Term.{column_weight}
use Rattle.column.specs.declared.term.CountedTerm.{CountedTerm}
use Rattle.column.specs.ColumnCursor.{listed_parts}
use Rattle.column.specs.Ends.{reaching_below}
use Rattle.column.proofs.Gathering.{zone_below, zone_below_all}
use Rattle.column.proofs.Nearness.{few_reach}
use Rattle.column.proofs.NextColumn.{sound_listed, zone_all}
use Rattle.column.proofs.cursor.ColumnCursor.reaching.Given.{Over}
use Rattle.column.proofs.cursor.ColumnCursor.reaching.Goals as goal

whole : (g : Over) (c : goal.After-len-2 g) → c.count_below.result + (c.len-2.result - c.args.self.now.zones.begun) ≡ reaching_below (listed_parts c.args.self.now) (column_weight c.args.self.now.column)
whole g c =
    let x = c.args.self.now in
    let ts = g.B.Batch.terms x.batch.now in
    let xs = x.terms.items in
    let fits : SFits w32 x.column = search rules in
    let count =
    c.count_below.ensures
    ∙ ap₂ (λ (k : ℤ) (ys : List CountedTerm). length (filter (λ (c : CountedTerm). lt_z c.last k) (take (x.zones.begun - x.zones.ended) (drop x.zones.ended ys)))) (to_z-of_z w32 x.column fits) c.as_slice.ensures.value in
    ap (λ (n : ℕ). c.count_below.result + (n - x.zones.begun)) c.len-2.ensures.value
    ∙ zone_below ts xs (sound_listed ts xs x.spans x.regular) x.zones x.column x.run.bottom x.column x.zoned (omega (arith, ints)) x.within_run c.count_below.result count

-- where all that have begun end below the column
pub returns-then-self : goal.returns-then-self
returns-then-self g c =
    let x = c.args.self.now in
    let ts = g.B.Batch.terms x.batch.now in
    let xs = x.terms.items in
    let here : SFits w32 x.column = search rules in
    let high : SFits w32 x.highest_last = search rules in
    let lower : x.highest_last <ℤ x.column = omega (arith, ints, to_z-of_z w32 x.column here, to_z-of_z w32 x.highest_last high, c.if-self.true) in
    let all = zone_all (λ y. y.last <ℤ x.column) xs x.zones.ended x.zones.begun x.zoned.order x.zoned.within (λ j d l u. let e = x.ends j d l u in omega (arith, ints)) in
    ap (λ (n : ℕ). n - x.zones.ended) c.len.ensures.value
    ∙ zone_below_all ts xs (sound_listed ts xs x.spans x.regular) x.zones x.column x.run.bottom x.column x.zoned (omega (arith, ints)) x.within_run all

pub overflow_add-result : goal.overflow_add-result
overflow_add-result g c =
    let x = c.args.self.now in
    omega (arith, whole g c, few_reach (g.B.Batch.terms x.batch.now) x.terms.items (column_weight x.column) x.fits)

pub returns : goal.returns
returns g c = whole g c
