-- The batch's weights are the part's.
use Rattle.std.proofs.Common.{◌≡◌, ◌∙◌, sym, ap, ap₂, ℤ, arith, w32, to_z, of_z}
use borrow.Author.Differences.{ints}
use Rattle.std.proofs.lemmas.Int.{to_z-of_z}
use Rattle.batch.specs.Lookup.{low_of_term, top_of_term}
use Rattle.column.specs.Parts.{low as low_of, top as top_of}
use Rattle.column.specs.Listed.{listed_part}
use Rattle.column.specs.Walk.{highest_spanned}
use Rattle.column.proofs.Lookups.{listed_low, listed_top}
use Rattle.column.proofs.counted.highest_occupied.Goals as goal

pub returns : goal.returns
returns g c =
    let ts = g.B.Batch.terms c.args.batch.now in
    let term = c.args.term in
    let low : to_z w32 (of_z w32 c.low.result) ≡ low_of (listed_part ts term) = omega (arith, ints, c.low.type_inv) ∙ c.low.ensures ∙ ap (low_of_term ts) c.from-place.ensures ∙ sym (listed_low ts term) in
    let top : to_z w32 (of_z w32 c.top.result) ≡ top_of (listed_part ts term) = omega (arith, ints, c.top.type_inv) ∙ c.top.ensures ∙ ap (top_of_term ts) c.from-place.ensures ∙ sym (listed_top ts term) in
    c.highest_spanned.ensures
    ∙ ap₂ (λ (l t : ℤ). highest_spanned l t (to_z w32 (of_z w32 c.args.below))) low top
    ∙ ap (highest_spanned (low_of (listed_part ts term)) (top_of (listed_part ts term))) (to_z-of_z w32 c.args.below c.ranges.below)
