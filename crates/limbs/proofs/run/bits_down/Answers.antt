-- The places above the limbs, and the others.
use Rattle.std.proofs.Common.{◌≡◌, ◌-◌, ◌*◌, get_or, pos, ◌-ℤ◌, ap, ◌∙◌, w64, to_z, of_z, nat_abs, arith, rules}
use borrow.Author.Differences.{ints}
use Rattle.exact.specs.Limbs.{limbs_value}
use Rattle.limbs.specs.Bits.{bits_at_weight}
use Rattle.limbs.proofs.Runs.{none_above, known_parts}
use Rattle.limbs.proofs.run.bits_down.Goals as goal

pub returns-clause-each : goal.returns-clause-each
returns-clause-each c =
    let n = limbs_value c.args.limbs.now in
    let from = c.args.from in
    let first = nat_abs (to_z w64 (of_z w64 from)) in
    let same : pos first ≡ from = search rules in
    λ j l. known_parts (λ k. bits_at_weight n (from -ℤ pos (32 * k))) c.fill.new.self c.bits_before.new.run
    (λ k h. let none : get_or c.fill.new.self k 0 ≡ 0 = search rules in none ∙ none_above c.args.limbs.now (first - 32 * k) _ (λ i l. (c.type_inv.limbs i).fits) (omega arith) (omega (arith, ints)))
    (λ k h. c.bits_before.ensures.each k (omega arith) ∙ ap (bits_at_weight n) (omega (arith, ints)))
    j (omega arith)
