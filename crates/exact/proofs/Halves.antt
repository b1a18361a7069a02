-- The multiple of d nearest to n, a tie to the even one.
use Rattle.std.proofs.Common.{◌≡◌, ℕ, suc, ◌+◌, ◌-◌, ◌*◌, ◌/◌, ◌%◌, ◌<◌, ◌≤◌, ◌⊎◌, sym, ◌∙◌, inl, inr, mod-lt, div-add-mod', arith}
use Rattle.std.proofs.lemmas.Grind.{common_steps}
use Prim.Native.Nat.{compare}
use native.Mathlib.Nat.{div-eq_of_lt-le}
use lib.Ieee.{nearest}
use lib.Ieee.Nearest.{closest}

-- ---- between its neighbours
pub near_ge : (n d : ℕ) → n / d * d ≤ closest n d * d
near_ge n d = grind arith

pub near_le : (n d : ℕ) → 0 < d → closest n d * d ≤ (n + (d - 1)) / d * d
near_le n d D = grind (arith, common_steps)

-- ---- one of its neighbours, on the nearer side
pub either_neighbour : (q r d : ℕ) → ((nearest q (compare (r * 2) d) ≡ q) × (r * 2 ≤ d)) ⊎ ((nearest q (compare (r * 2) d) ≡ suc q) × (d ≤ r * 2))
either_neighbour q r d = grind arith

pub closest_either : (n d : ℕ) → 0 < d → (closest n d ≡ n / d) ⊎ (closest n d ≡ (n + (d - 1)) / d)
closest_either n d D = elim (either_neighbour (n / d) (n % d) d) [
  | inl (e, h) ↦ inl e
  | inr (e, h) ↦ inr (e ∙ sym (div-eq_of_lt-le {k = suc (n / d)} d (omega (arith, div-add-mod' n d)) (omega (arith, div-add-mod' n d, mod-lt n D))))
]

-- n is no nearer to the multiple below it, nor to the one above it
pub near_low : (n d : ℕ) → closest n d * d + n / d * d ≤ 2 * n
near_low n d = grind arith

pub near_high : (n d : ℕ) → 0 < d → 2 * n ≤ closest n d * d + (n + (d - 1)) / d * d
near_high n d D = grind arith

-- half of d at most lies between them
pub near_half_below : (n d : ℕ) → 2 * (closest n d * d) ≤ 2 * n + d
near_half_below n d = grind arith

pub near_half_above : (n d : ℕ) → 0 < d → 2 * n ≤ 2 * (closest n d * d) + d
near_half_above n d D = grind arith

pub tie_even : (n d : ℕ) → n % d * 2 ≡ d → closest n d % 2 ≡ 0
tie_even n d e = grind arith
