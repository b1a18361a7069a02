-- The terms of a row: two bit patterns.
use Rattle.std.specs.Prelude.{◌≡◌, ℕ, ◌+◌, ◌/◌, ◌%◌, ◌^◌, ◌<◌, Bool, true, false, cond, List, [], ◌∷◌, ℤ, pos, ◌-ℤ◌, neg_ℤ, ◌≤ℤ◌, ◌==◌, nat_le, refl}
use Rattle.std.proofs.Common.{arith, lit≤}
use Rattle.std.specs.Float.Ieee.Digits.{size-le}
use Rattle.std.proofs.lemmas.Bool.{eqb-false}
use Rattle.std.proofs.lemmas.Int.{ints}
use Rattle.exact.proofs.BitLength.{size_pos}
use Rattle.batch.specs.Term.{Term, Limited, RegularLimits}
use Rattle.list_batch.specs.declared.row.Row.{Row}
use Rattle.list_batch.specs.BitPatterns.{fields_term, bits_term}
use Rattle.list_batch.specs.Lists.{LawfulRecord}

-- the terms of its two patterns
abbrev pub row_parts : Row → List Term
row_parts r = bits_term r.head ∷ bits_term r.tail ∷ []

limited_cond : (b : Bool) (t u : Term) → (b ≡ true → Limited t) → (b ≡ false → Limited u) → Limited (cond b t u)
limited_cond true t u p q = p refl
limited_cond false t u p q = q refl

-- a number of at most 64 digits, with its last digit not too far from 0
pub word_limits : (m : ℕ) (q : ℤ) → 0 < m → m < 2 ^ 64 → neg_ℤ (pos 40000) ≤ℤ q → q ≤ℤ pos 40000 → RegularLimits m q
word_limits m q a b c d =
    let some = size_pos m a in
    let few = size-le m 64 b in
    record { some_digit = some; few_digits = omega arith; not_below = omega (arith, ints); not_above = omega (arith, ints) }

limited_fields : (s : Bool) (x t : ℕ) → x < 2 ^ 11 → t < 2 ^ 52 → Limited (fields_term s x t)
limited_fields s x t h k =
    limited_cond (x == 2047) _ _ (λ _. limited_cond (t == 0) _ _ (λ _. tt) (λ _. tt))
    (λ _. limited_cond (x == 0) _ _
    (λ _. limited_cond (t == 0) _ _ (λ _. tt) (λ e. let n = eqb-false t 0 e in word_limits t (neg_ℤ (pos 1074)) (omega arith) (omega arith) (omega (arith, ints)) (omega (arith, ints))))
    (λ _. word_limits (2 ^ 52 + t) (pos x -ℤ pos 1075) (omega arith) (omega arith) (omega (arith, ints)) (omega (arith, ints))))

limited_bits : (b : ℕ) → Limited (bits_term b)
limited_bits b = limited_fields (nat_le (2 ^ 63) b) (b % 2 ^ 63 / 2 ^ 52) (b % 2 ^ 52) (omega arith) (omega arith)

pub row_lawful : LawfulRecord 2 row_parts
row_lawful = record { some = lit≤ tt; few = lit≤ tt; even = λ r. refl; each_limited = λ r. (limited_bits r.head, (limited_bits r.tail, tt)) }
