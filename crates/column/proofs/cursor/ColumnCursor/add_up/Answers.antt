-- The terms change their places only, and the totals are those of the terms that have begun.
use Rattle.std.proofs.Common.{◌≡◌, ◌-◌, ◌<◌, List, take, drop, ℤ, pos, ◌-ℤ◌, arith, sym, ap₂, ◌∙◌, subst, w32, to_z, of_z, ◌≤ℤ◌}
use borrow.Author.Differences.{ints}
use Rattle.std.specs.List.{All}
use Rattle.std.proofs.lemmas.Int.{to_z-of_z}
use Rattle.std.proofs.lemmas.List.Sorted.{length_permutation}
use Rattle.std.specs.List.Sorted.{IsPermutation}
use Rattle.exact.specs.Integers.{gap}
use Rattle.column.specs.declared.term.CountedTerm.{CountedTerm}
use Rattle.column.specs.ColumnCursor.{SameColumns}
use Rattle.column.specs.Columns.{column_total}
use Rattle.column.specs.Listed.{parts_listed}
use Rattle.column.proofs.Gathering.{zone_total}
use Rattle.column.proofs.NextColumn.{sound_listed, zone_within}
use Rattle.column.proofs.Permuted.{listed_columns, spans_permuted, regular_permuted, refilled}
use Rattle.column.proofs.cursor.ColumnCursor.add_up.Goals as goal

pub invariant_of-self : goal.invariant_of-self
invariant_of-self g c =
    let x = c.args.self.now in
    let ts = g.B.Batch.terms x.batch.now in
    let xs = x.terms.items in
    let ys = c.go_down-zones.new.terms in
    let z = c.go_down-zones.result in
    let moved : IsPermutation xs ys = subst (λ (zs : List CountedTerm). IsPermutation zs ys) c.as_mut_slice.ensures.value c.go_down-zones.ensures.permuted in
    let back = refilled xs ys moved in
    let spans = spans_permuted ts xs ys moved x.spans in
    let regular = regular_permuted ts xs ys moved x.regular in
    let height = c.next_height-height.result in
    let few = c.next_height-height.ensures in
    let top = to_z w32 (of_z w32 c.args.top) in
    let high = to_z-of_z w32 c.args.top c.ranges.top in
    let bottom = to_z w32 (of_z w32 (to_z w32 (of_z w32 c.args.top) -ℤ to_z w32 (height - 1))) in
    let low : bottom ≡ c.args.top -ℤ pos (height - 1) = omega (arith, ints, high, c.ranges.top, c.requires.near, few.few) in
    let zoned = c.go_down-zones.ensures.zoned in
    rw back record {
      within_run = omega (arith, ints, low, high);
      not_above = omega (arith, ints);
      short_run = omega (arith, ints, low, high, few.few);
      fits = omega (arith, length_permutation xs ys moved, x.fits);
      regular = regular;
      spans = spans;
      zoned = zoned;
      ends =
          let r = c.highest_last-self.result in
          let kept : to_z w32 (of_z w32 r) ≡ r = omega (arith, ints, c.highest_last-self.type_inv) in
          let all = subst (λ (zs : List CountedTerm). All (λ y. y.last ≤ℤ r) (take (z.begun - z.ended) (drop z.ended zs))) (c.as_slice.ensures.value ∙ back) c.highest_last-self.ensures in
          rw kept (zone_within (λ y. y.last ≤ℤ r) ys z.ended z.begun zoned.order zoned.within all);
      totalled = λ k from upto.
          let j = gap top k in
          let in_run : j < height = omega (arith, ints, low, high, from, upto, few.some) in
          let at : top -ℤ pos j ≡ k = omega (arith, ints, from, upto) in
          c.run_totals-totals.ensures j in_run
          ∙ ap₂ (λ (zs : List CountedTerm) (n : ℤ). column_total (parts_listed ts (take (z.begun - z.ended) (drop z.ended zs))) n) (c.as_slice.ensures.value ∙ back) at
          ∙ zone_total ts ys (sound_listed ts ys spans regular) z top bottom k zoned upto from;
    }

pub returns-clause-same : goal.returns-clause-same
returns-clause-same g c =
    let x = c.args.self.now in
    let ts = g.B.Batch.terms x.batch.now in
    let xs = x.terms.items in
    let ys = c.go_down-zones.new.terms in
    let moved : IsPermutation xs ys = subst (λ (zs : List CountedTerm). IsPermutation zs ys) c.as_mut_slice.ensures.value c.go_down-zones.ensures.permuted in
    subst (λ (zs : List CountedTerm). SameColumns (parts_listed ts xs) (parts_listed ts zs)) (sym (refilled xs ys moved)) (listed_columns ts xs ys moved)
