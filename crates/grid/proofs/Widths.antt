-- How many digits an answer has: at most the width of the grid.
use Rattle.std.proofs.Common.{◌≡◌, ℕ, ◌+◌, ◌*◌, ◌^◌, ◌<◌, ◌≤◌, ℤ, pos, ◌+ℤ◌, ◌-ℤ◌, nat_abs, sym, ap, ◌∙◌, subst, le_trans, le_of_lt, arith, pow_mono, shl_lt}
use lib.Ieee.{size}
use lib.Ieee.Digits.{size-lt}
use borrow.Author.Differences.{ints}
use Rattle.std.proofs.lemmas.Int.{by_lt_z}
use Rattle.exact.specs.Integers.{is_negative, signed, gap, scale}
use Rattle.exact.specs.Dyadic.{Dyadic, dyadic, exponent, ◌≈ᴰ◌}
use Rattle.exact.proofs.Signed.{abs_signed}
use Rattle.exact.proofs.Scaling.{scale_abs, scale_none, gap_none}
use Rattle.grid.specs.Spacing.{InRange, Lawful}
use Rattle.grid.specs.Rounding.{Way, whole, way_of, dropped, rounded}
use Rattle.grid.specs.Claims.{Digits}
use Rattle.grid.proofs.Finer.{whole_le}
use Rattle.grid.proofs.Distances.{less_than_step}
use Rattle.grid.proofs.Outcomes.{value_in_steps}

-- at most 2 ^ W steps
pub steps_within_width : (u : ℤ → ℤ) (W : ℕ) → Lawful u W → (w : Way) (x : Dyadic) → InRange (exponent x) → whole w (nat_abs x.count) (2 ^ dropped u x) ≤ 2 ^ W
steps_within_width u W L w x r =
    let d = L.narrow (exponent x) r in
    le_trans (whole_le w (dropped u x) (nat_abs x.count)) (pow_mono (omega (arith, ints)))

pub digits : (u : ℤ → ℤ) (W : ℕ) → Lawful u W → Digits u W
unfolding rounded
digits u W L m x r =
    let n = x.count in
    let w = x.weight in
    let v = u (exponent x) in
    let d = L.narrow (exponent x) r in
    by_lt_z v w
    (λ l.
    let j = gap w v in
    let none : gap v w ≡ 0 = gap_none v w (omega (arith, ints)) in
    let s : nat_abs ((rounded u m x).value.count -ℤ n) < 2 ^ 0 = subst (λ (k : ℕ). nat_abs ((rounded u m x).value.count -ℤ n) < 2 ^ k) none (less_than_step m (dropped u x) n) in
    let e : (rounded u m x).value.count ≡ n = omega (arith, ints) in
    let f : scale (scale n j) (gap v w) ≡ scale n j = ap (scale (scale n j)) none ∙ scale_none (scale n j) in
    let b : nat_abs n * 2 ^ j < 2 ^ (size (nat_abs n) + j) = shl_lt (size (nat_abs n)) j (size-lt (nat_abs n)) in
    (scale n j, ap (λ (y : ℤ). scale y j) e ∙ sym f, rw (scale_abs n j) (le_trans (le_of_lt b) (pow_mono (omega (arith, ints))))))
    (λ l.
    let s = is_negative n in
    let q = whole (way_of m s) (nat_abs n) (2 ^ dropped u x) in
    let e : w +ℤ pos (dropped u x) ≡ v = omega (arith, ints) in
    (signed s q, subst (λ (y : ℤ). (rounded u m x).value ≈ᴰ dyadic (signed s q) y) e (value_in_steps u m x), rw (abs_signed s q) (steps_within_width u W L (way_of m s) x r)))
