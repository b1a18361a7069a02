-- A number in limbs is that number, if there is room for it.
use Rattle.std.proofs.Common.{◌≡◌, ℕ, zero, suc, ◌*◌, ◌/◌, ◌^◌, ◌<◌, arith}
use Rattle.exact.specs.Limbs.{limbs_value}
use Rattle.exact.proofs.LimbBits.{pow_next_limb}
use Rattle.answers.specs.Published.{limbs_of}

pub value_of_limbs : (n v : ℕ) → v < 2 ^ (32 * n) → limbs_value (limbs_of n v) ≡ v
value_of_limbs zero v h = omega arith
value_of_limbs (suc n) v h =
    let e = pow_next_limb n in
    let d : v / 2 ^ 32 < 2 ^ (32 * n) = omega arith in
    let i = value_of_limbs n (v / 2 ^ 32) d in
    omega arith

pub value_of_none : (n : ℕ) → limbs_value (limbs_of n 0) ≡ 0
value_of_none zero = omega arith
value_of_none (suc n) = let i = value_of_none n in omega arith
