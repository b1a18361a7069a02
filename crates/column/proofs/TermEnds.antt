-- What the ends of a listed term's columns say of its part: where it has no digit, whether it reaches below a column, and its highest column below one.
use Rattle.std.proofs.Common.{◌≡◌, ℕ, ◌%◌, ◌^◌, ◌<◌, true, false, List, ℤ, pos, ◌+ℤ◌, ◌-ℤ◌, ◌≤ℤ◌, ◌<ℤ◌, ◌↔◌, Some, None, ap, subst, arith}
use lib.Signed.{lt_z}
use borrow.Author.Differences.{ints}
use Rattle.std.specs.Int.{int_min}
use Rattle.std.proofs.lemmas.Bool.{cond_both}
use Rattle.std.proofs.lemmas.Int.{clamps}
use Rattle.exact.specs.Integers.{gap}
use Rattle.exact.proofs.BitLength.{size_pos}
use Rattle.batch.specs.Term.{Term, column_weight}
use Rattle.column.specs.declared.term.CountedTerm.{CountedTerm}
use Rattle.column.specs.Parts.{Part, low, top, units}
use Rattle.column.specs.Columns.{digit, Occupies}
use Rattle.column.specs.Edges.{Spanning, highest_below}
use Rattle.column.specs.Listed.{listed_part}
use Rattle.column.specs.Walk.{Highest}
use Rattle.column.proofs.Listing.{floor_is}
use Rattle.column.proofs.Units.{units_none, units_small}

-- ---- a part
-- it has no digit in a column above it or below it
pub digit_above : (p : Part) (k : ℤ) → top p ≤ℤ column_weight k → digit p k ≡ 0
digit_above p k h =
    let e : gap (column_weight k) (column_weight k) ≡ 0 = omega (arith, ints) in
    let s : units p (column_weight k) < 2 ^ 0 = subst (λ (g : ℕ). units p (column_weight k) < 2 ^ g) e (units_small p (column_weight k) (column_weight k) (omega (arith, ints)) h) in
    let z : units p (column_weight k) ≡ 0 = omega arith in
    ap (λ (n : ℕ). n % 2 ^ 32) z

pub digit_below : (p : Part) (k : ℤ) → column_weight (k +ℤ pos 1) ≤ℤ low p → digit p k ≡ 0
digit_below p k h =
    let e : gap (column_weight (k +ℤ pos 1)) (column_weight k) ≡ 32 = omega (arith, ints) in
    subst (λ (g : ℕ). units p (column_weight k) % 2 ^ g ≡ 0) e (units_none p (column_weight (k +ℤ pos 1)) (column_weight k) (omega (arith, ints)) h)

-- a part that is not 0 has its low weight below its top weight
pub low_below_top : (p : Part) → 0 < p.significand → low p <ℤ top p
low_below_top p h = omega (arith, ints, size_pos p.significand)

-- two comparisons that follow from each other tell the same
same_test : (a b x y : ℤ) → ((a <ℤ b) ↔ (x <ℤ y)) → lt_z a b ≡ lt_z x y
same_test a b x y h = grind (arith, ints, h)

-- ---- a listed term
module _ (ts : List Term) (c : CountedTerm) (s : Spanning ts c) where
  abbrev at : Part
  at = listed_part ts c

  pub reaches : (k : ℤ) → lt_z c.last k ≡ lt_z (low at) (column_weight k)
  reaches k = same_test c.last k (low at) (column_weight k) (λ h. omega (arith, ints, h, s.last, floor_is (low at)), λ h. omega (arith, ints, h, s.last, floor_is (low at)))

  pub ended_digit : (k : ℤ) → k <ℤ c.last → digit at k ≡ 0
  ended_digit k h = digit_below at k (omega (arith, ints, floor_is (low at), s.last))

  pub waiting_digit : (k : ℤ) → c.first <ℤ k → digit at k ≡ 0
  waiting_digit k h = digit_above at k (omega (arith, ints, floor_is (top at -ℤ pos 1), s.first))

  pub none_upto : (k : ℤ) → k <ℤ c.last → Occupies at k → ⊥
  none_upto k h o = omega (arith, ints, o, s.last, floor_is (low at))

  module _ (positive : 0 < at.significand) where
    pub falls : c.last ≤ℤ c.first
    falls = omega (arith, ints, low_below_top at positive, s.first, s.last, floor_is (low at), floor_is (top at -ℤ pos 1))

    pub next_occupied : (b : ℤ) → c.last <ℤ b → (b -ℤ pos 1) ≤ℤ c.first → Occupies at (b -ℤ pos 1)
    next_occupied b h g = (omega (arith, ints, s.first, floor_is (top at -ℤ pos 1)), omega (arith, ints, s.last, floor_is (low at)))

    none_below : (b : ℤ) → lt_z c.last b ≡ false → Highest b (Occupies at) None
    none_below b n k o h = omega (arith, ints, n, o, s.last, floor_is (low at))

    some_below : (b : ℤ) → lt_z c.last b ≡ true → Highest b (Occupies at) (Some (int_min c.first (b -ℤ pos 1)))
    some_below b y = (
      (omega (arith, ints, clamps, s.first, floor_is (top at -ℤ pos 1)), omega (arith, ints, clamps, y, falls, s.last, floor_is (low at))),
      omega (arith, ints, clamps),
      λ k o h. omega (arith, ints, clamps, o, s.first, floor_is (top at -ℤ pos 1)),
    )

    pub highest_is : (b : ℤ) → Highest b (Occupies at) (highest_below b c)
    highest_is b = cond_both (lt_z c.last b) (Some (int_min c.first (b -ℤ pos 1))) None (Highest b (Occupies at)) (some_below b) (none_below b)
