-- The batch's low weight is the part's, and 64 bits hold both weights.
use Rattle.std.proofs.Common.{◌≡◌, pos, ◌*ℤ◌, sym, ap, ◌∙◌, ap₂, arith, w64, to_z, of_z}
use lib.Signed.{lt_z}
use borrow.Author.Differences.{ints}
use Rattle.batch.specs.Lookup.{low_of_term}
use Rattle.batch.specs.Term.{column_weight}
use Rattle.column.proofs.Lookups.{listed_low}
use Rattle.column.proofs.counted.reaches_below.Goals as goal

pub returns : goal.returns
returns g c =
    let ts = g.B.Batch.terms c.args.batch.now in
    let low : to_z w64 (of_z w64 c.from-2.result) ≡ c.low.result = omega (arith, ints) in
    let weight : to_z w64 (of_z w64 (pos 32 *ℤ to_z w64 (of_z w64 c.from-3.result))) ≡ column_weight c.args.column = omega (arith, ints) in
    ap₂ lt_z (low ∙ c.low.ensures ∙ ap (low_of_term ts) c.from.ensures ∙ sym (listed_low ts c.args.term)) weight
