use Rattle.std.proofs.Common.{◌≡◌, ℤ, ◌≤◌, ◌^◌, ◌+ℤ◌, nat_abs, ap, ◌∙◌, arith, w64, SFits, to_z, of_z, rules}
use Rattle.std.proofs.lemmas.Int.{ints}
use Rattle.exact.specs.Integers.{is_negative}
use Rattle.partial_sum.specs.Holding.{slot}
use Rattle.partial_sum.specs.declared.sum.PartialSum.{PartialSum}
use Rattle.partial_sum.proofs.Slices.{slice_value, slice_small, slot_small}
use Rattle.partial_sum.proofs.sum.PartialSum.settle_with.Goals as goal

-- the window's lowest total with the offset, as it is worked out
abbrev lowest_with : PartialSum → ℤ → ℤ
lowest_with p a = to_z w64 (of_z w64 (to_z w64 (of_z w64 (slot p p.from)) +ℤ to_z w64 (of_z w64 a)))

lowest_is : (p : PartialSum) (a : ℤ) → SFits w64 (slot p p.from) → SFits w64 a → nat_abs a ≤ 2 ^ 45 → lowest_with p a ≡ slot p p.from +ℤ a
lowest_is p a fits also few = let small = slot_small p p.from p.used in omega (arith, ints)

pub settle_whole-requires-clause-small : goal.settle_whole-requires-clause-small
settle_whole-requires-clause-small c =
    let p = c.args.self.now in
    slice_small p c.args.offset (lowest_with p c.args.offset) c.requires.few (lowest_is p c.args.offset (search rules) c.ranges.offset c.requires.few)

pub returns-clause-negative : goal.returns-clause-negative
returns-clause-negative c =
    let p = c.args.self.now in
    c.settle_whole.ensures.negative ∙ ap is_negative (slice_value p c.args.offset (lowest_with p c.args.offset) (lowest_is p c.args.offset (search rules) c.ranges.offset c.requires.few))

pub returns-clause-magnitude : goal.returns-clause-magnitude
returns-clause-magnitude c =
    let p = c.args.self.now in
    c.settle_whole.ensures.magnitude ∙ ap nat_abs (slice_value p c.args.offset (lowest_with p c.args.offset) (lowest_is p c.args.offset (search rules) c.ranges.offset c.requires.few))
