-- The decision and the limbs that are written, put together.
use Rattle.std.proofs.Common.{◌≡◌, ℕ, ◌+◌, ◌*◌, ◌/◌, ◌^◌, ◌<◌, ℤ, pos, ◌+ℤ◌, ◌<ℤ◌, refl, ap, ◌∙◌, subst, sym, arith, w32, SFits, rules}
use lib.Ieee.Digits.{size-lt}
use Rattle.std.proofs.lemmas.Int.{ints, to_z-of_z}
use Rattle.exact.specs.Integers.{gap}
use Rattle.exact.specs.Limbs.{limbs_value}
use Rattle.grid.specs.Modes.{mode_of}
use Rattle.grid.proofs.Everywhere.{laws_everywhere}
use Rattle.limbs.specs.Bits.{bit}
use Rattle.ends.specs.Steps.{NoneKept, SomeKept}
use Rattle.ends.proofs.AnswersOfEnds.{none_kept_right, some_kept_right}
use Rattle.ends.proofs.rounding.round_at.Goals as goal

pub invariant_of-number : goal.invariant_of-number
invariant_of-number c = record { short = subst (λ (y : ℕ). limbs_value c.args.end.whole.now < 2 ^ y) (sym c.requires.bits) (size-lt (limbs_value c.args.end.whole.now)) }

pub returns-then-place : goal.returns-then-place
returns-then-place c = λ u W L vv xx.
    let n = limbs_value c.args.end.whole.now in
    let place = c.args.place in
    let decision = c.decide_at-decision.result in
    let unit : SFits w32 place.unit = search rules in
    let here : SFits w32 place.exponent = search rules in
    let U = to_z-of_z w32 place.unit unit in
    let r = c.none_kept-extent.result in
    let a = limbs_value c.none_kept-extent.new.answer in
    let h : NoneKept place.unit decision.raise r a = subst (λ (y : ℤ). NoneKept y decision.raise r a) U c.none_kept-extent.ensures in (
      refl,
      none_kept_right u (laws_everywhere u W L) (mode_of c.args.mode) c.args.end.negative c.args.end.partial n place.base place.exponent place.unit decision.raise decision.inexact
          (c.requires.exponent ∙ ap (λ (y : ℕ). place.base +ℤ pos y) c.requires.bits) vv c.requires.nonzero c.requires.determined c.decide_at-decision.ensures
          (omega (arith, ints, c.if-place.true)) r a c.direction-direction.result c.direction-direction.ensures h,
    )

pub returns-else-place : goal.returns-else-place
returns-else-place c = λ u W L vv xx.
    let n = limbs_value c.args.end.whole.now in
    let place = c.args.place in
    let decision = c.decide_at-decision.result in
    let p = gap place.exponent place.unit in
    let q = gap (place.exponent +ℤ pos 1) place.next in
    let unit : SFits w32 place.unit = search rules in
    let here : SFits w32 place.exponent = search rules in
    let l : place.unit <ℤ place.exponent = omega (arith, ints, c.if-place.false) in
    let i = c.requires.inside l in
    let pp : place.exponent ≡ place.unit +ℤ pos p = omega (arith, ints) in
    let qq : (place.exponent +ℤ pos 1) ≡ place.next +ℤ pos q = omega (arith, ints) in
    let r = c.some_kept.result in
    let a = limbs_value c.some_kept.new.answer in
    let h = c.some_kept.ensures p q pp qq in (
      refl,
      some_kept_right u (laws_everywhere u W L) (mode_of c.args.mode) c.args.end.negative c.args.end.partial n place.base place.exponent place.unit decision.raise decision.inexact
          (c.requires.exponent ∙ ap (λ (y : ℕ). place.base +ℤ pos y) c.requires.bits) vv c.requires.nonzero c.requires.determined c.decide_at-decision.ensures
          p q pp (omega (arith, ints)) (qq ∙ ap (λ (y : ℤ). y +ℤ pos q) xx) r a c.direction-direction.result c.direction-direction.ensures
          (subst (λ (y : ℕ). SomeKept (n * 2 ^ p / 2 ^ y + bit decision.raise) place.exponent p q r a) c.requires.bits h),
    )
