-- The bits at one more place, from the two limbs in which they lie.
use Rattle.std.proofs.Common.{◌≡◌, ◌+◌, ◌-◌, ◌*◌, ◌/◌, ◌%◌, ◌^◌, get_or, ap, ◌∙◌, arith}
use Rattle.exact.specs.Limbs.{limbs_value}
use Rattle.limbs.proofs.Runs.{in_two_limbs, known_more}
use Rattle.limbs.proofs.run.bits_within.Goals as goal

pub loop-j-preserved : goal.loop-j-preserved
loop-j-preserved c =
    let xs = c.args.limbs.now in
    let end = c.args.end in
    let s = c.args.shift in
    let j = c.loop-j.j in
    let above : end - j ≡ end - 1 - j + 1 = omega (arith, c.requires.few, c.loop-j-test.true) in
    let next : end - 1 - j ≡ end - (j + 1) = omega arith in
    let high = c.loop-j.invariant.0 ∙ ap (λ i. get_or xs i 0) above in
    let bits = c.bits_of_pair.ensures ∙ in_two_limbs xs (end - 1 - j) s _ (λ i l. (c.type_inv.limbs i).fits) c.requires.short high in
    (ap (λ i. get_or xs i 0) next, known_more (λ k. limbs_value xs / 2 ^ (32 * (end - 1 - k) + s) % 4294967296) c.loop-j.run j _ (omega (arith, c.loop-j.auto.run)) bits c.loop-j.invariant.1)

pub returns-clause-each : goal.returns-clause-each
returns-clause-each c k l = c.loop-j.invariant.1 k (omega (arith, c.loop-j.auto.run))
