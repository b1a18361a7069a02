-- The laws of the columns and of the ends.
use Rattle.std.proofs.Common.{◌≡◌, ℕ, ◌-◌, ◌*◌, ◌^◌, List, [], ◌∷◌, ℤ, pos, ◌+ℤ◌, ◌≤ℤ◌, ap, subst, arith}
use borrow.Author.Differences.{ints}
use Rattle.exact.specs.Integers.{gap, lesser}
use Rattle.exact.specs.Dyadic.{Dyadic, dyadic, plus, ◌≤ᴰ◌, ◌≈ᴰ◌}
use Rattle.exact.proofs.Order.{same_at, ≈ᴰ_trans}
use Rattle.exact.proofs.Sums.{plus_zero}
use Rattle.batch.specs.Term.{column_weight}
use Rattle.column.specs.Parts.{Part, exact_sum}
use Rattle.column.specs.Ends.{cut_sum, sum_down_to, lower_end, upper_end}
use Rattle.column.specs.Claims.{ColumnsListed, SumStarts, SumGoesOn, TotalsBounded, EndsNested, EndsMeet, SumEnclosed, Enclosed}
use Rattle.column.proofs.Cuts.{lower_at, upper_at, first_sum, next_sum, total_within, at_exact, upper_clear, rest_within, lower_below, upper_above}
use Rattle.column.proofs.Nesting.{lower_nested, upper_nested}
use Rattle.column.proofs.Listing.{columns_fall, columns_occupied, occupied_columns}
use Rattle.column.proofs.Chain.{reach, Link, chain, first_top}

pub columns_listed : ColumnsListed
columns_listed ps = record { falling = columns_fall ps; occupied = λ k. (columns_occupied ps k, occupied_columns ps k) }

pub sum_starts : SumStarts
sum_starts ps c s cs e = first_sum ps c (first_top ps s c cs e)

pub sum_goes_on : SumGoesOn
sum_goes_on ps d s c ds (above, e) = let l = chain ps s above (c ∷ d ∷ ds) e in next_sum ps c d l.0.final l.0.clear

pub totals_bounded : TotalsBounded
totals_bounded ps k = let w = total_within ps k in record { from = w.0; upto = w.1 }

-- ---- the ends, by weights
-- what a column's ends are, whether others follow or not
pub lower_is : (ps : List Part) (c : ℤ) (cs : List ℤ) → Link ps c cs → lower_at ps (column_weight c) (reach c cs) ≡ lower_end ps c cs
lower_is ps c cs h = grind (arith, ints)

pub upper_is : (ps : List Part) (c : ℤ) (cs : List ℤ) → Link ps c cs → upper_at ps (column_weight c) (reach c cs) ≡ upper_end ps c cs
upper_is ps c cs h = grind (arith, ints)

pub ends_nested : EndsNested
ends_nested ps s c d ds (above, e) =
    let l = chain ps s above (c ∷ d ∷ ds) e in
    let h : column_weight d ≤ℤ column_weight (d +ℤ pos 1) = omega (arith, ints) in
    record {
      lower = subst (λ (x : Dyadic). lower_end ps c (d ∷ ds) ≤ᴰ x) (lower_is ps d ds l.1.0)
          (lower_nested ps (column_weight c) (column_weight (d +ℤ pos 1)) (column_weight d) (reach d ds) l.0.ordered h l.1.0.ordered l.0.clear);
      upper = subst (λ (x : Dyadic). x ≤ᴰ upper_end ps c (d ∷ ds)) (upper_is ps d ds l.1.0)
          (upper_nested ps (column_weight c) (column_weight (d +ℤ pos 1)) (column_weight d) (reach d ds) l.0.ordered h l.1.0.ordered l.0.clear);
    }

-- ---- the exact sum
pub link_encloses : (ps : List Part) (c : ℤ) (cs : List ℤ) → Link ps c cs → Enclosed ps c cs
link_encloses ps c cs l = record {
  lower = subst (λ (x : Dyadic). x ≤ᴰ exact_sum ps) (lower_is ps c cs l) (lower_below ps (column_weight c) (reach c cs) l.ordered l.clear);
  upper = subst (λ (x : Dyadic). exact_sum ps ≤ᴰ x) (upper_is ps c cs l) (upper_above ps (column_weight c) (reach c cs) l.ordered l.clear);
}

pub sum_enclosed : SumEnclosed
sum_enclosed ps s c cs (above, e) = link_encloses ps c cs (chain ps s above (c ∷ cs) e).0

-- at the last column nothing is cut off
last_exact : (ps : List Part) (c : ℤ) → Link ps c [] → sum_down_to ps c ≈ᴰ exact_sum ps
last_exact ps c l =
    let w = column_weight c in
    let z = lesser w (exact_sum ps).weight in
    let V : z ≤ℤ w = omega (arith, ints) in
    let W : w ≤ℤ w = omega (arith, ints) in
    let X : z ≤ℤ (exact_sum ps).weight = omega (arith, ints) in
    let r = rest_within ps w w z V W in
    let n = ap (λ (x : ℕ). x * (2 ^ gap w z - 1)) l.final in
    let a = at_exact z ps X in
    let b = upper_clear ps w w z V W l.clear in
    same_at z (cut_sum ps w) (exact_sum ps) V X (omega (arith, ints))

pub ends_meet : EndsMeet
ends_meet ps s c (above, e) =
    let l = (chain ps s above (c ∷ []) e).0 in
    let x = last_exact ps c l in
    let P = sum_down_to ps c in
    let y = ≈ᴰ_trans (plus P (dyadic (pos 0) (column_weight c))) P (exact_sum ps) (plus_zero P (column_weight c)) x in
    record { none_below = l.final; whole = x; lower = y; upper = y }
