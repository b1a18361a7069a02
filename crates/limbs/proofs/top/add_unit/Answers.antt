-- One limb more of the sum, and at the end the carry is 0 or 1.
use Rattle.std.proofs.Common.{◌≡◌, ℕ, ◌+◌, ◌*◌, ◌%◌, ◌^◌, ◌<◌, ◌≤◌, Bool, true, false, get_or, arith, rules}
use Rattle.std.specs.Bool.{FalseIff}
use Rattle.std.specs.Int.{from_bool}
use Rattle.exact.proofs.LimbSteps.{add_limb}
use Rattle.limbs.proofs.top.add_unit.Goals as goal

carried : (x c v : ℕ) (carries : Bool) → x < 4294967296 → c < 4294967296 → v ≡ (x + c) % 4294967296 → FalseIff carries (x + c < 4294967296)
    → (x + c ≡ v + from_bool carries * 4294967296) × (from_bool carries ≤ 1)
carried x c v false hx hc e h = (omega arith, omega arith)
carried x c v true hx hc e h = (omega arith, omega arith)

pub loop-limb-preserved : goal.loop-limb-preserved
loop-limb-preserved c =
    let s = c.loop-limb.limbs in
    let i = c.loop-limb.limb-index in
    let x = get_or s i 0 in
    let v = c.overflowing_add-sum.result.0 in
    let d = c.from-carry.result in
    let small : x < 4294967296 = search rules in
    let flag = carried x c.loop-limb.carry v c.overflowing_add-sum.result.1 small c.loop-limb.invariant.0 c.overflowing_add-sum.ensures.value c.overflowing_add-sum.ensures.overflow in
    let sum : (x + c.loop-limb.carry ≡ v + d * 4294967296) × (d ≤ 1) = rw c.from-carry.ensures flag in
    let more = add_limb s c.args.limbs.now i c.loop-limb.carry (2 ^ c.args.s) v d (omega (arith, c.loop-limb.auto.limbs)) c.loop-limb.auto.limbs c.loop-limb.invariant.2 c.loop-limb.invariant.3 sum.0 in
    (c.from-carry.type_inv, λ _. sum.1, more.0, more.1)
