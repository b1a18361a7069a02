-- One digit more, and in the end all of them.
use Rattle.std.proofs.Common.{ℕ, ◌*◌, ◌/◌, ◌%◌, ◌^◌, ◌<◌, length, sym, ap, ◌∙◌, lt_of_lt_of_le, mod-eq_of_lt, arith, pow_mono}
use Rattle.std.proofs.lemmas.List.{take_all}
use Rattle.exact.specs.Limbs.{limbs_value}
use Rattle.exact.proofs.LimbSteps.{digit_set, top_digit}
use Rattle.exact.proofs.Shifts.{shift_below}
use Rattle.limbs.proofs.top.copy_top.Goals as goal

pub loop-j-preserved : goal.loop-j-preserved
loop-j-preserved c =
    let n = limbs_value c.args.number.limbs.now in
    let b = c.args.number.bits in
    let k = length c.args.limbs.now in
    let j = c.loop-j.j in
    let digit = c.moved_bits.ensures ∙ ap (λ (y : ℕ). y % 4294967296) (sym (top_digit n b k j c.loop-j-test.true)) in
    digit_set c.loop-j.limbs j c.moved_bits.result (n * 2 ^ (32 * k) / 2 ^ b) (omega (arith, c.loop-j.auto.limbs)) c.loop-j.invariant digit

pub returns : goal.returns
returns c =
    let n = limbs_value c.args.number.limbs.now in
    let s = c.loop-j.limbs in
    let b = c.args.number.bits in
    let k = length c.args.limbs.now in
    let j = c.loop-j.j in
    let fits : n * 2 ^ (32 * k) / 2 ^ b < 2 ^ (32 * j) = lt_of_lt_of_le (shift_below n b (32 * k) c.args.number.short) (pow_mono (omega arith)) in
    ap limbs_value (sym (take_all j s (omega (arith, c.loop-j.auto.limbs)))) ∙ c.loop-j.invariant ∙ mod-eq_of_lt fits
