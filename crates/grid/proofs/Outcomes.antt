-- What an answer says of the number rounded: itself where that is on the grid, and else on which side of it the answer lies.
use Rattle.std.proofs.Common.{◌≡◌, ◌^◌, ℤ, pos, ◌+ℤ◌, ◌-ℤ◌, nat_abs, ap, ◌∙◌, arith}
use Rattle.std.proofs.lemmas.Grind.{common_steps}
use borrow.Author.Differences.{ints}
use Rattle.exact.specs.Integers.{sign, is_negative, signed}
use Rattle.exact.specs.Dyadic.{Dyadic, dyadic, ◌≈ᴰ◌}
use Rattle.exact.proofs.Integers.{signed_abs}
use Rattle.grid.specs.Rounding.{Mode, whole, way_of, to_multiple, dropped, rounded, OnGrid}
use Rattle.grid.specs.Claims.{Toward, SignOf}
use Rattle.grid.proofs.Finer.{multiple_exact}
use Rattle.grid.proofs.Members.{on_grid_divided}

-- ---- a number of the grid rounds to itself
pub exact : (u : ℤ → ℤ) (m : Mode) (x : Dyadic) → OnGrid u x → ((rounded u m x).value ≡ x) × ((rounded u m x).direction ≡ pos 0)
unfolding rounded
exact u m x o =
    let n = x.count in
    let c : to_multiple m (dropped u x) n ≡ n = ap (signed (is_negative n)) (multiple_exact (way_of m (is_negative n)) (dropped u x) (nat_abs n) (on_grid_divided u x o)) ∙ signed_abs n in
    (ap (λ (k : ℤ). dyadic k x.weight) c, ap sign (ap (λ (k : ℤ). k -ℤ n) c ∙ let z : n -ℤ n ≡ pos 0 = omega (arith, ints) in z))

-- ---- the sign is that of the number rounded
pub sign_kept : (u : ℤ → ℤ) (m : Mode) (x : Dyadic) → SignOf x (rounded u m x)
unfolding rounded
sign_kept u m x = grind (arith, ints)

-- ---- directions
toward : (v n w : ℤ) → Toward (sign (v -ℤ n)) (dyadic v w) (dyadic n w)
toward v n w = grind (arith, ints, common_steps)

pub direction : (u : ℤ → ℤ) (m : Mode) (x : Dyadic) → Toward (rounded u m x).direction (rounded u m x).value x
unfolding rounded
direction u m x = toward (to_multiple m (dropped u x) x.count) x.count x.weight

-- ---- other forms of an answer
-- counted in units of its spacing
pub value_in_steps : (u : ℤ → ℤ) (m : Mode) (x : Dyadic)
    → (rounded u m x).value ≈ᴰ dyadic (signed (is_negative x.count) (whole (way_of m (is_negative x.count)) (nat_abs x.count) (2 ^ dropped u x))) (x.weight +ℤ pos (dropped u x))
unfolding rounded
value_in_steps u m x = grind (arith, ints)
