-- One total more.
use Rattle.std.proofs.Common.{◌≡◌, ◌*◌, ◌^◌, ◌<◌, length, get_or, take, ℤ, pos, ◌+ℤ◌, ◌*ℤ◌, nat_abs, subst, arith, w64, SFits, rules}
use Rattle.std.proofs.lemmas.Int.{ints, to_z-of_z}
use Rattle.exact.specs.Limbs.{limbs_value}
use Rattle.exact.proofs.LimbSteps.{below_set}
use Rattle.totals.specs.Totals.{flipped, totals_value}
use Rattle.totals.proofs.Carries.{carry_step}
use Rattle.totals.proofs.carry_up.Goals as goal

pub loop-i-preserved : goal.loop-i-preserved
loop-i-preserved c =
    let f = c.args.flip in
    let ts = c.args.totals.now in
    let s = c.loop-i.limbs in
    let i = c.loop-i.i in
    let q = c.split-rest.result.0 in
    let l = c.split-rest.result.1 in
    let t = get_or ts i (pos 0) in
    let small : nat_abs t < 2 ^ 53 = c.requires.small i c.loop-i-test.true in
    let fits : SFits w64 q = search rules in
    let low : l < 4294967296 = search rules in
    let term : c.flipped.result ≡ flipped f t = search rules in
    let digit : flipped f t +ℤ c.loop-i.carry ≡ q *ℤ pos 4294967296 +ℤ pos l = rw (← term) (omega (arith, ints, c.split-rest.ensures, c.flipped.ensures.small, c.loop-i.invariant.small)) in
    let same : length ts ≡ length s = omega (arith, c.requires.same, c.loop-i.auto.limbs) in
    let now = subst (λ (z : ℤ). flipped f (totals_value (take i ts)) ≡ z *ℤ pos (2 ^ (32 * i)) +ℤ pos (limbs_value (take i s))) c.loop-i.carry-is c.loop-i.invariant.value in
    rw (to_z-of_z w64 q fits) (record {
      small = omega (arith, ints, c.split-rest.ensures, c.flipped.ensures.small, c.loop-i.invariant.small);
      value = carry_step f ts s i l c.loop-i.carry q c.loop-i-test.true same digit now;
      below = below_set s i l (omega (arith, c.requires.same, c.loop-i.auto.limbs)) low c.loop-i.invariant.below;
    })
