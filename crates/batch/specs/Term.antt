-- What a batch means: a list of terms, each with its kind, its weights and its digits.
use Rattle.std.specs.Prelude.{ℕ, ◌*◌, ◌/◌, ◌%◌, ◌^◌, ◌≤◌, Bool, true, false, List, length, ℤ, pos, ◌+ℤ◌, ◌*ℤ◌, neg_ℤ, ◌≤ℤ◌, count_by}
use Rattle.std.specs.Float.Ieee.{size}
use Rattle.std.specs.List.{AllByRecursion}
use Rattle.exact.specs.Integers.{gap}

-- one term; the Bool says whether it is negative, and a regular term is m * 2 ^ q
pub data Term : Type 0 where
  not_a_number : Term
  infinite : Bool → Term
  signed_zero : Bool → Term
  regular : Bool → ℕ → ℤ → Term

-- is it regular?
abbrev pub is_regular : Term → Bool
is_regular not_a_number = false
is_regular (infinite s) = false
is_regular (signed_zero s) = false
is_regular (regular s m q) = true

-- the weight q of the last digit of m * 2 ^ q, and 0 where the term is not regular
abbrev pub low_weight : Term → ℤ
low_weight not_a_number = pos 0
low_weight (infinite s) = pos 0
low_weight (signed_zero s) = pos 0
low_weight (regular s m q) = q

-- the e with 2 ^ (e - 1) <= m * 2 ^ q < 2 ^ e, and 0 where the term is not regular
abbrev pub top_weight : Term → ℤ
top_weight not_a_number = pos 0
top_weight (infinite s) = pos 0
top_weight (signed_zero s) = pos 0
top_weight (regular s m q) = q +ℤ pos (size m)

-- how many whole units of 2 ^ w there are in m * 2 ^ q
abbrev pub whole_units : ℕ → ℤ → ℤ → ℕ
whole_units m q w = m * 2 ^ gap q w / 2 ^ gap w q

-- the lowest weight of column k, which holds the 32 weights from there on
abbrev pub column_weight : ℤ → ℤ
column_weight k = pos 32 *ℤ k

-- the 32 bits of the magnitude in column k, and 0 where the term is not regular
abbrev pub digit_at : ℤ → Term → ℕ
digit_at k not_a_number = 0
digit_at k (infinite s) = 0
digit_at k (signed_zero s) = 0
digit_at k (regular s m q) = whole_units m q (column_weight k) % 2 ^ 32

-- how many digits a regular term may have
abbrev pub most_digits : ℕ
most_digits = 4096

-- how far from 0 its top weight may be
abbrev pub farthest_top : ℕ
farthest_top = 1000000000

-- how many terms a batch may have
abbrev pub most_terms : ℕ
most_terms = 1024

-- the limits of m * 2 ^ q: a number of 1 to 4,096 digits, with its top weight from -1,000,000,000 to 1,000,000,000
pub record RegularLimits (m : ℕ) (q : ℤ) : Type 0 where
  pub some_digit : 1 ≤ size m
  pub few_digits : size m ≤ most_digits
  pub not_below : neg_ℤ (pos farthest_top) ≤ℤ (q +ℤ pos (size m))
  pub not_above : (q +ℤ pos (size m)) ≤ℤ pos farthest_top

-- what a term of a batch keeps to
abbrev pub Limited : Term → Type 0
Limited not_a_number = Unit {0}
Limited (infinite s) = Unit {0}
Limited (signed_zero s) = Unit {0}
Limited (regular s m q) = RegularLimits m q

-- a list of terms that can be a batch
pub record Batchable (ts : List Term) : Type 0 where
  pub few : length ts ≤ most_terms
  pub each_limited : AllByRecursion Limited ts

-- how many of the terms are regular
abbrev pub regular_terms : List Term → ℕ
regular_terms ts = count_by is_regular ts
