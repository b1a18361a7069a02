-- An integer by its sign and its magnitude.
use Rattle.std.proofs.Common.{◌≡◌, ℕ, ◌<◌, Bool, nat_abs, arith}
use borrow.Author.Differences.{ints}
use Rattle.exact.specs.Integers.{is_negative, signed}

pub abs_signed : (s : Bool) (n : ℕ) → nat_abs (signed s n) ≡ n
abs_signed s n = grind (arith, ints)

pub negative_signed : (s : Bool) (n : ℕ) → 0 < n → is_negative (signed s n) ≡ s
negative_signed s n h = grind (arith, ints)
