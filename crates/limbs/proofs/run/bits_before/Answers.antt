-- The places within the limbs, and those below.
use Rattle.std.proofs.Common.{◌+◌, ◌-◌, ◌*◌, pos, ◌-ℤ◌, ap, ◌∙◌, arith}
use borrow.Author.Differences.{ints}
use Rattle.exact.specs.Limbs.{limbs_value}
use Rattle.limbs.specs.Bits.{bits_at_weight}
use Rattle.limbs.proofs.Runs.{from_bit, known_parts}
use Rattle.limbs.proofs.run.bits_before.Goals as goal

pub returns-clause-each : goal.returns-clause-each
returns-clause-each c =
    let n = limbs_value c.args.limbs.now in
    let end = c.args.end in
    let s = c.args.shift in
    λ j l. known_parts (λ k. bits_at_weight n (pos (32 * end + s) -ℤ pos (32 * (k + 1)))) c.bits_within.new.run c.bits_below.new.run
    (λ k h. c.bits_within.ensures.each k (omega arith) ∙ from_bit n (32 * (end - 1 - k) + s) _ (omega (arith, ints)))
    (λ k h. c.bits_below.ensures.each k (omega arith) ∙ ap (bits_at_weight n) (omega (arith, ints)))
    j (omega arith)
