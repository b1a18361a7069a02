-- The highest bit of one limb, where the others are 0.
use Rattle.std.proofs.Common.{◌≡◌, ℕ, ◌+◌, ◌-◌, ◌*◌, ◌/◌, ◌^◌, List, length, set, sym, ap, ◌∙◌, arith, rules, pow-add}
use Rattle.std.specs.Prelude.{replicate}
use Rattle.exact.specs.Limbs.{limbs_value}
use Rattle.exact.proofs.Shifts.{half_power}
use Rattle.limbs.proofs.ZeroLimbs.{zeros, value_alone}
use Rattle.limbs.proofs.top.write_power.Goals as goal

pub returns-then-count-gt0 : goal.returns-then-count-gt0
returns-then-count-gt0 c =
    let n = length c.args.answer.now in
    let k = c.args.count in
    let blank : c.fill.new.self ≡ replicate n 0 = search rules in
    let e : 31 + 32 * (k - 1) ≡ 32 * k - 1 = omega arith in
    ap (λ (s : List ℕ). limbs_value (set s (k - 1) 2147483648)) blank ∙ value_alone n (k - 1) 2147483648 (omega (arith, c.requires))
    ∙ sym (pow-add 2 31 (32 * (k - 1))) ∙ ap (λ (y : ℕ). 2 ^ y) e ∙ sym (half_power (32 * k) (omega arith))

pub returns-else-count-gt0 : goal.returns-else-count-gt0
returns-else-count-gt0 c =
    let n = length c.args.answer.now in
    let blank : c.fill.new.self ≡ replicate n 0 = search rules in
    let none : c.args.count ≡ 0 = omega arith in
    ap limbs_value blank ∙ zeros n ∙ ap (λ (k : ℕ). 2 ^ (32 * k) / 2) (sym none)
