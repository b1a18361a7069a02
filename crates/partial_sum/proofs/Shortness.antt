-- A window that holds the whole sum, where the grid is no coarser than its unit: the sum is a number of the grid.
use Rattle.std.proofs.Common.{◌≡◌, ℕ, zero, suc, ◌+◌, ◌-◌, ◌*◌, ◌^◌, ◌≤◌, true, drop, ℤ, pos, ◌+ℤ◌, nat_abs, ◌≤ℤ◌, is_some, Some, None, Option, sym, ap, ◌∙◌, subst, inr, arith, pow-add}
use Rattle.std.proofs.lemmas.Bool.{false≢true}
use lib.Ieee.{size}
use lib.Ieee.Digits.{size-le}
use borrow.Author.Differences.{ints}
use Rattle.std.proofs.lemmas.List.{drop_more}
use Rattle.exact.specs.Integers.{gap, scale}
use Rattle.exact.specs.Dyadic.{dyadic, exponent}
use Rattle.exact.proofs.Scaling.{scale_none, gap_none}
use Rattle.exact.proofs.LimbBits.{pow_next_limb}
use Rattle.batch.specs.Term.{column_weight}
use Rattle.grid.specs.Spacing.{Lawful}
use Rattle.grid.specs.Rounding.{Mode, OnGrid}
use Rattle.grid.proofs.Everywhere.{LawsEverywhere, laws_everywhere}
use Rattle.grid.proofs.Apart.{apart}
use Rattle.totals.specs.Totals.{totals_value}
use Rattle.partial_sum.specs.Holding.{slot, head, window}
use Rattle.partial_sum.specs.Ends.{number_held, lower_number, upper_number, Reached}
use Rattle.partial_sum.specs.Rounded.{Undecided}
use Rattle.partial_sum.specs.declared.sum.PartialSum.{PartialSum}
use Rattle.partial_sum.proofs.Windows.{value_below}
use Rattle.partial_sum.proofs.Absorbing.{head_alone}
use Rattle.partial_sum.proofs.Deciding.{rises_far, lower_less, upper_more, whole_units}

-- ---- how long a window can be
-- the head and j totals below it are less than 2 ^ 53 units of the head
within : (p : PartialSum) → (j i : ℕ) → i + j ≡ 129 → nat_abs (totals_value (drop i p.totals)) + 2 ^ 12 ≤ 2 ^ 53 * 2 ^ (32 * j)
within p zero i e = grind (arith, ints, head_alone p.totals p.whole)
within p (suc j) i e =
    let above = within p j (i + 1) (omega arith) in
    let value : totals_value (drop i p.totals) ≡ slot p i +ℤ scale (totals_value (drop (i + 1) p.totals)) 32 = ap totals_value (drop_more p.totals i (pos 0) (omega (arith, p.whole))) ∙ value_below (slot p i) (drop (i + 1) p.totals) in
    let here = p.sound.all_totals i (omega arith) in
    let next : 2 ^ (32 * suc j) ≡ 4294967296 * 2 ^ (32 * j) = pow_next_limb j in
    omega (arith, ints)

window_length : (p : PartialSum) → size (nat_abs (window p)) ≤ 53 + 32 * (129 - p.from)
window_length p =
    let j = 129 - p.from in
    let bound = within p j p.from (omega (arith, p.used)) in
    let power : 2 ^ (53 + 32 * j) ≡ 2 ^ 53 * 2 ^ (32 * j) = pow-add 2 53 (32 * j) in
    size-le (nat_abs (window p)) (53 + 32 * j) (omega arith)

pub window_exponent : (p : PartialSum) → exponent (dyadic (window p) (column_weight p.lowest)) ≤ℤ (column_weight p.lowest +ℤ pos (53 + 32 * (129 - p.from)))
window_exponent p = let long = window_length p in omega (arith, ints)

-- ---- a grid no coarser than the unit
rises_to : (u : ℤ → ℤ) → LawsEverywhere u → (e f : ℤ) → e ≤ℤ f → u e ≤ℤ u f
rises_to u S e f le = subst (λ (z : ℤ). u e ≤ℤ u z) (let m : e +ℤ pos (gap f e) ≡ f = omega (arith, ints) in m) (rises_far u S e (gap f e))

units_on_grid : (u : ℤ → ℤ) (v w : ℤ) → u (exponent (dyadic v w)) ≤ℤ w → OnGrid u (dyadic v w)
units_on_grid u v w fine =
    let z = u (exponent (dyadic v w)) in
    let q = scale v (gap w z) in
    inr (q, sym (scale_none q) ∙ ap (scale q) (sym (gap_none z w fine)))

pub sum_on_grid : (u : ℤ → ℤ) (W : ℕ) → Lawful u W → (p : PartialSum) → p.column ≡ p.lowest → (top : ℤ) → exponent (dyadic (window p) (column_weight p.lowest)) ≤ℤ top → u top ≤ℤ column_weight p.lowest → OnGrid u (number_held p)
sum_on_grid u W L p here top upto fine =
    let w = column_weight p.lowest in
    let up = rises_to u (laws_everywhere u W L) (exponent (dyadic (window p) w)) top upto in
    subst (OnGrid u) (sym (whole_units p here)) (units_on_grid u (window p) w (omega (arith, ints)))

-- ---- with more to come its ends do not round alike
pub undecided_yet : (u : ℤ → ℤ) (W : ℕ) → Lawful u W → (m : Mode) (p : PartialSum) (n : ℕ) (below : Option ℤ) → Reached p n below → is_some below ≡ true → p.rest ≡ pos 0 → OnGrid u (number_held p) → Undecided u m p n below
undecided_yet u W L m p n None reached some none on = absurd (false≢true some)
undecided_yet u W L m p n (Some d) reached some none on = record {
  apart = apart u (laws_everywhere u W L) m (lower_number p n (Some d)) (number_held p) (upper_number p n (Some d)) on (lower_less p n d reached) (upper_more p n d reached);
  rest_few = omega (arith, ints);
  rest_none = λ _. none;
}
