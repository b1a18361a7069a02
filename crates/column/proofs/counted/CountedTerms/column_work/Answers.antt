-- The column's total is what the sum starts or goes on with; the terms are few, so that it is small.
use Rattle.std.proofs.Common.{◌≡◌, ◌^◌, ◌<◌, List, length, ℤ, nat_abs, sym, ap₂, ◌∙◌, subst, arith, w32, w64, to_z, of_z}
use lib.Signed.{lt_z}
use borrow.Author.Differences.{ints}
use Rattle.std.specs.List.{filter}
use Rattle.std.proofs.lemmas.Int.{to_z-of_z}
use Rattle.std.proofs.lemmas.List.{length-map}
use Rattle.batch.specs.Term.{column_weight}
use Rattle.column.specs.declared.term.CountedTerm.{CountedTerm}
use Rattle.column.specs.Parts.{low}
use Rattle.column.specs.Claims.{StartsWith, GoesOnWith}
use Rattle.column.specs.Columns.{column_total}
use Rattle.column.specs.CountedTerms.{listed_parts}
use Rattle.column.specs.Listed.{listed_part, parts_listed}
use Rattle.column.proofs.Gathering.{total_small, tally_filter}
use Rattle.column.proofs.Laws.{sum_starts, sum_goes_on}
use Rattle.column.proofs.counted.CountedTerms.column_work.Given.{Over}
use Rattle.column.proofs.counted.CountedTerms.column_work.Goals as goal

small : (g : Over) (c : goal.After-count_below-below g) → nat_abs (column_total (listed_parts (g.B.Batch.terms c.args.batch.now) c.args.self.now) c.args.column) < 2 ^ 42
small g c =
    let ts = g.B.Batch.terms c.args.batch.now in
    let xs = c.args.self.now.terms.items in
    total_small (parts_listed ts xs) c.args.column (omega (arith, length-map xs (listed_part ts), c.args.self.now.fits))

total_is : (g : Over) (c : goal.After-count_below-below g) → to_z w64 (of_z w64 c.total_of-total.result) ≡ column_total (listed_parts (g.B.Batch.terms c.args.batch.now) c.args.self.now) c.args.column
total_is g c =
    let ts = g.B.Batch.terms c.args.batch.now in
    let is = c.total_of-total.ensures ∙ ap₂ (λ (xs : List CountedTerm) (k : ℤ). column_total (parts_listed ts xs) k) c.as_slice-terms.ensures.value (to_z-of_z w32 c.args.column c.ranges.column) in
    let few = small g c in
    let kept : to_z w64 (of_z w64 c.total_of-total.result) ≡ c.total_of-total.result = omega (arith, ints, is, few) in
    kept ∙ is

pub returns-clause-total : goal.returns-clause-total
returns-clause-total g c = total_is g c

pub returns-clause-below : goal.returns-clause-below
returns-clause-below g c =
    let ts = g.B.Batch.terms c.args.batch.now in
    c.count_below-below.ensures
    ∙ ap₂ (λ (xs : List CountedTerm) (k : ℤ). length (filter (λ (x : CountedTerm). lt_z (low (listed_part ts x)) (column_weight k)) xs)) c.as_slice-terms.ensures.value (to_z-of_z w32 c.args.column c.ranges.column)
    ∙ tally_filter (λ p. lt_z (low p) (column_weight c.args.column)) (listed_part ts) c.args.self.now.terms.items

pub returns-clause-small : goal.returns-clause-small
returns-clause-small g c = subst (λ (z : ℤ). nat_abs z < 2 ^ 42) (sym (total_is g c)) (small g c)

pub returns-clause-starts : goal.returns-clause-starts
returns-clause-starts g c =
    let ps = listed_parts (g.B.Batch.terms c.args.batch.now) c.args.self.now in
    subst (StartsWith ps c.args.column) (sym (total_is g c)) (sum_starts ps c.args.column)

pub returns-clause-goes_on : goal.returns-clause-goes_on
returns-clause-goes_on g c =
    let ps = listed_parts (g.B.Batch.terms c.args.batch.now) c.args.self.now in
    subst (GoesOnWith ps c.args.column) (sym (total_is g c)) (sum_goes_on ps c.args.column)
