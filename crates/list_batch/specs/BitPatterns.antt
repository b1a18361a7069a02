-- The term that a bit pattern of a binary64 number stands for.
use Rattle.std.specs.Prelude.{ℕ, ◌+◌, ◌/◌, ◌%◌, ◌^◌, Bool, cond, pos, ◌-ℤ◌, neg_ℤ, ◌==◌, nat_le}
use Rattle.batch.specs.Term.{Term, not_a_number, infinite, signed_zero, regular}

-- by sign, exponent field x and fraction t: infinities and not-a-numbers at the last field, zeros and subnormals at the
-- first, and else a number of 53 digits
abbrev pub fields_term : Bool → ℕ → ℕ → Term
fields_term s x t =
    cond (x == 2047) (cond (t == 0) (infinite s) not_a_number)
    (cond (x == 0) (cond (t == 0) (signed_zero s) (regular s t (neg_ℤ (pos 1074))))
    (regular s (2 ^ 52 + t) (pos x -ℤ pos 1075)))

-- the top bit is the sign, then come 11 bits of the field and 52 of the fraction
abbrev pub bits_term : ℕ → Term
bits_term b = fields_term (nat_le (2 ^ 63) b) (b % 2 ^ 63 / 2 ^ 52) (b % 2 ^ 52)
