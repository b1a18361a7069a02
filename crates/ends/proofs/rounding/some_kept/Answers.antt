-- The bits that are written, carried or kept.
use Rattle.std.proofs.Common.{◌≡◌, ℕ, ◌+◌, ◌*◌, ◌/◌, ◌^◌, pos, ◌+ℤ◌, ap, ◌∙◌, subst, inr, arith, w32, SFits, to_z, of_z, rules}
use Rattle.std.proofs.lemmas.Int.{ints}
use Rattle.exact.specs.Limbs.{limbs_value}
use Rattle.limbs.specs.Bits.{bit, limbs_for}
use Rattle.ends.proofs.rounding.some_kept.Goals as goal

pub returns : goal.returns
returns c = λ p q pp qq.
    let place = c.args.place in
    let n = limbs_value c.args.number.limbs.now in
    let unit : SFits w32 place.unit = search rules in
    let next : SFits w32 place.next = search rules in
    let here : SFits w32 place.exponent = search rules in
    let e : to_z w32 (of_z w32 (to_z w32 (of_z w32 place.exponent) +ℤ pos 1)) ≡ place.exponent +ℤ pos 1 = omega (arith, ints, c.requires.cap) in
    let kept : c.distance-precision.result ≡ p = omega (arith, ints, c.distance-precision.ensures.is) in
    let after : c.distance-precision-2.result ≡ q = omega (arith, ints, c.distance-precision-2.ensures.is, c.requires.cap) in
    inr (
      e,
      after,
      c.write_power.ensures ∙ ap (λ (y : ℕ). 2 ^ (32 * limbs_for y) / 2) after,
      subst (λ (y : ℕ). n * 2 ^ y / 2 ^ c.args.number.bits + bit c.args.raise ≡ 2 ^ y) kept c.if-not-write_rounded.ensures,
    )
