-- How long the lines of answers and refusals are at most.
use Rattle.std.specs.Prelude.{ℕ}

-- the bytes of (sum - -2147483648 4294967295 (..) -1 4294967295) with 128 limbs, and of the byte 10
abbrev pub longest_answer : ℕ
longest_answer = 1199

-- the bytes of (no 4294967295 .. ..) with two numbers of 64 bits, and of the byte 10
abbrev pub longest_refusal : ℕ
longest_refusal = 58
