-- Free and floored grids keep the laws. This stands here, and not among the proofs, since the grids of the code cite it.
use Rattle.std.specs.Prelude.{ℕ, ◌≤◌, ℤ, pos, neg_ℤ, ◌≤ℤ◌}
use Rattle.std.proofs.Common.{arith}
use Rattle.std.proofs.lemmas.Int.{clamps, ints}
use Rattle.grid.specs.Spacing.{Lawful, free, floored}

-- the widths and floors that are offered
abbrev pub AllowedWidth : ℕ → Type 0
AllowedWidth p = (1 ≤ p) × (p ≤ 4096)

abbrev pub AllowedFloor : ℤ → Type 0
AllowedFloor f = (neg_ℤ (pos 1000000000) ≤ℤ f) × (f ≤ℤ pos 1000000000)

pub free_lawful : (p : ℕ) → AllowedWidth p → Lawful (free p) p
free_lawful p (a, b) = record {
  width_low = a;
  width_high = b;
  rises = λ e r. omega (arith, ints, clamps);
  inside = λ e r l. omega (arith, ints, clamps);
  flat = λ e r l f g. absurd (omega (arith, ints, clamps));
  narrow = λ e r. omega (arith, ints, clamps);
  below = λ e r. omega (arith, ints, clamps);
  ends = λ e. omega (arith, ints, clamps);
}

pub floored_lawful : (p : ℕ) (f : ℤ) → AllowedWidth p → AllowedFloor f → Lawful (floored p f) p
floored_lawful p f (a, b) (c, d) = record {
  width_low = a;
  width_high = b;
  rises = λ e r. omega (arith, ints, clamps);
  inside = λ e r l. omega (arith, ints, clamps);
  flat = λ e r l g h. omega (arith, ints, clamps);
  narrow = λ e r. omega (arith, ints, clamps);
  below = λ e r. omega (arith, ints, clamps);
  ends = λ e. omega (arith, ints, clamps);
}
