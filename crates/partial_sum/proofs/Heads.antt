-- Tests of a head against the bound on small ones.
use Rattle.std.proofs.Common.{◌≡◌, ◌^◌, ◌<◌, true, ℤ, pos, negsuc, nat_abs, ◌≤ℤ◌, ◌<ℤ◌, arith}
use lib.Signed.{lt_z}
use borrow.Author.Differences.{ints}

pub small_below : (z : ℤ) → z <ℤ pos 0 → lt_z (negsuc 1048575) z ≡ true → nat_abs z < 2 ^ 20
small_below z n e = grind (arith, ints)

pub small_above : (z : ℤ) → pos 0 ≤ℤ z → lt_z z (pos 1048576) ≡ true → nat_abs z < 2 ^ 20
small_above z n e = grind (arith, ints)
