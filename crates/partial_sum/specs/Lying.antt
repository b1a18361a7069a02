-- Where a number lies among the multiples of a unit: on one, or strictly between two neighbours.
use Rattle.std.specs.Prelude.{◌≡◌, ℕ, Bool, true, false, ℤ, pos, ◌+ℤ◌, ◌<ℤ◌}
use Rattle.exact.specs.Integers.{scale}
use Rattle.exact.specs.Dyadic.{Dyadic, dyadic, ◌<ᴰ◌, ◌≈ᴰ◌}

-- n is v times 2 ^ k, or (partial) strictly between that and the next multiple
abbrev pub Placed : Bool → ℕ → ℤ → ℤ → Type 0
Placed false k n v = n ≡ scale v k
Placed true k n v = (scale v k <ℤ n) × (n <ℤ scale (v +ℤ pos 1) k)

-- the number x is v units of 2 ^ w, or (partial) strictly between that and the next unit
abbrev pub Lies : Bool → ℤ → ℤ → Dyadic → Type 0
Lies false v w x = x ≈ᴰ dyadic v w
Lies true v w x = (dyadic v w <ᴰ x) × (x <ᴰ dyadic (v +ℤ pos 1) w)
