-- What is written at the top of limbs.
use Rattle.std.specs.Prelude.{◌≡◌, ℕ, ◌-◌, ◌*◌, ◌^◌, ◌<◌, Bool, true, false}
use Rattle.limbs.specs.Bits.{limbs_for}

-- M in p bits at the top of the limbs that hold p bits, or (carried) M is 2 ^ p
abbrev pub Written : ℕ → ℕ → Bool → ℕ → Type 0
Written M p false a = (a ≡ M * 2 ^ (32 * limbs_for p - p)) × (M < 2 ^ p)
Written M p true a = M ≡ 2 ^ p
