-- Where an end is not determined the two ends do not round alike.
use Rattle.std.proofs.Common.{◌≡◌, ℕ, zero, suc, ◌^◌, ◌≤◌, Bool, true, false, ℤ, pos, ◌+ℤ◌, neg_ℤ, nat_abs, ◌≤ℤ◌, ◌<ℤ◌, Some, Option, subst, arith}
use lib.Ieee.{size}
use borrow.Author.Differences.{ints}
use Rattle.exact.specs.Dyadic.{Dyadic, dyadic, ◌≤ᴰ◌, ◌<ᴰ◌}
use Rattle.exact.proofs.Order.{<ᴰ_≤ᴰ_trans}
use Rattle.batch.specs.Term.{column_weight}
use Rattle.grid.specs.Spacing.{Lawful}
use Rattle.grid.specs.Rounding.{Mode, rounded, Alike}
use Rattle.grid.proofs.Everywhere.{LawsEverywhere}
use Rattle.grid.proofs.Apart.{apart}
use Rattle.partial_sum.specs.Lying.{Lies}
use Rattle.partial_sum.specs.Limits.{InReach}
use Rattle.partial_sum.specs.Holding.{window, held}
use Rattle.partial_sum.specs.Ends.{number_held, lower_number, upper_number, Reached}
use Rattle.partial_sum.specs.Rounded.{Uncertain}
use Rattle.partial_sum.specs.declared.sum.PartialSum.{PartialSum}
use Rattle.partial_sum.proofs.Placing.{≤ᴰ_<ᴰ_trans, <ᴰ_trans, sum_more, sum_less, unit_lt, unit_le}
use Rattle.partial_sum.proofs.Large.{magnitude_long}

-- ---- a full window
pub rises_far : (u : ℤ → ℤ) → LawsEverywhere u → (e : ℤ) (j : ℕ) → u e ≤ℤ u (e +ℤ pos j)
rises_far u S e zero = grind (arith, ints)
rises_far u S e (suc j) =
    let before = rises_far u S e j in
    let step = S.rises (e +ℤ pos j) in
    subst (λ (z : ℤ). u e ≤ℤ u z) (let m : (e +ℤ pos j) +ℤ pos 1 ≡ e +ℤ pos (suc j) = omega (arith, ints) in m) (omega (arith, ints))

-- the spacing at a number of 4,128 digits or more is above its last digit
coarse : (u : ℤ → ℤ) (W : ℕ) → Lawful u W → (w : ℤ) (n : ℕ) → neg_ℤ (pos 1920000000) ≤ℤ w → w ≤ℤ pos 1920000000 → 4128 ≤ n → w <ℤ u (w +ℤ pos n)
coarse u W L w n from upto long = grind (arith, ints)

-- so next to a full window everything is determined
pub full_determined : (u : ℤ → ℤ) (W : ℕ) → Lawful u W → (p : PartialSum) (a : ℤ) → p.column <ℤ p.lowest → InReach p.lowest → nat_abs a ≤ 2 ^ 44
    → ¬ Uncertain u (window p +ℤ a) (column_weight p.lowest)
full_determined u W L p a closed reach few uncertain =
    let long = magnitude_long p uncertain.negative uncertain.magnitude a (p.sound.shaped.closed_full closed) few uncertain.meant in
    let above = coarse u W L (column_weight p.lowest) (size uncertain.magnitude) (omega (arith, ints, reach.from)) (omega (arith, ints, reach.upto)) long in
    omega (arith, ints, uncertain.fine)

-- ---- a window that reaches down to the sum's column
-- both ends lie on their side of the sum
module _ (p : PartialSum) (n : ℕ) (d : ℤ) (reached : Reached p n (Some d)) where
  pub lower_less : lower_number p n (Some d) <ᴰ number_held p
  lower_less = let below = reached.0 in let some = reached.1 in sum_less (held p) (neg_ℤ (pos n)) (column_weight p.column) (column_weight (d +ℤ pos 1)) (omega (arith, ints)) (omega (arith, ints))

  pub upper_more : number_held p <ᴰ upper_number p n (Some d)
  upper_more = let below = reached.0 in let some = reached.1 in sum_more (held p) (pos n) (column_weight p.column) (column_weight (d +ℤ pos 1)) (omega (arith, ints)) (omega (arith, ints))

-- the sum in units of the window
pub whole_units : (p : PartialSum) → p.column ≡ p.lowest → number_held p ≡ dyadic (window p) (column_weight p.lowest)
whole_units p here = grind (arith, ints)

-- one of the two ends
abbrev pub end_number : Bool → PartialSum → ℕ → Option ℤ → Dyadic
end_number false p n below = lower_number p n below
end_number true p n below = upper_number p n below

module _ (u : ℤ → ℤ) (S : LawsEverywhere u) (m : Mode) (p : PartialSum) (here : p.column ≡ p.lowest) (n : ℕ) (d : ℤ) (reached : Reached p n (Some d)) where
  pub ends_apart : (upper : Bool) (v : ℤ) → Lies true v (column_weight p.lowest) (end_number upper p n (Some d)) → Uncertain u v (column_weight p.lowest) → ¬ Alike (rounded u m (lower_number p n (Some d))) (rounded u m (upper_number p n (Some d)))
  ends_apart false v (l, g) uncertain =
      let w = column_weight p.lowest in
      let x = lower_number p n (Some d) in
      let y = upper_number p n (Some d) in
      let under : x <ᴰ dyadic (window p) w = subst (λ (z : Dyadic). x <ᴰ z) (whole_units p here) (lower_less p n d reached) in
      let over : dyadic (window p) w <ᴰ y = subst (λ (z : Dyadic). z <ᴰ y) (whole_units p here) (upper_more p n d reached) in
      let less : v <ℤ window p = unit_lt v (window p) w (<ᴰ_trans (dyadic v w) x (dyadic (window p) w) l under) in
      let next : dyadic (v +ℤ pos 1) w ≤ᴰ dyadic (window p) w = unit_le (v +ℤ pos 1) (window p) w (omega (arith, ints)) in
      apart u S m x (dyadic (v +ℤ pos 1) w) y uncertain.high g (≤ᴰ_<ᴰ_trans (dyadic (v +ℤ pos 1) w) (dyadic (window p) w) y next over)
  ends_apart true v (l, g) uncertain =
      let w = column_weight p.lowest in
      let x = lower_number p n (Some d) in
      let y = upper_number p n (Some d) in
      let under : x <ᴰ dyadic (window p) w = subst (λ (z : Dyadic). x <ᴰ z) (whole_units p here) (lower_less p n d reached) in
      let over : dyadic (window p) w <ᴰ y = subst (λ (z : Dyadic). z <ᴰ y) (whole_units p here) (upper_more p n d reached) in
      let more : window p <ℤ (v +ℤ pos 1) = unit_lt (window p) (v +ℤ pos 1) w (<ᴰ_trans (dyadic (window p) w) y (dyadic (v +ℤ pos 1) w) over g) in
      let next : dyadic (window p) w ≤ᴰ dyadic v w = unit_le (window p) v w (omega (arith, ints)) in
      apart u S m x (dyadic v w) y uncertain.low (<ᴰ_≤ᴰ_trans x (dyadic (window p) w) (dyadic v w) under next) l
