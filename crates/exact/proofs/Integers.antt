-- Order, signs and magnitudes of integers.
use Rattle.std.proofs.Common.{◌≡◌, ℕ, ◌+◌, ◌<◌, ◌≤◌, Bool, ℤ, pos, negsuc, ◌+ℤ◌, ◌-ℤ◌, neg_ℤ, nat_abs, ◌≤ℤ◌, ◌<ℤ◌, arith}
use Rattle.std.proofs.lemmas.Grind.{common_steps}
use borrow.Author.Differences.{ints}
use Rattle.exact.specs.Integers.{sign, is_negative, signed}

pub ≤ℤ_antisymm : (x y : ℤ) → x ≤ℤ y → y ≤ℤ x → x ≡ y
≤ℤ_antisymm x y h g = omega (arith, ints)

pub abs_neg : (n : ℕ) → nat_abs (neg_ℤ (pos n)) ≡ n
abs_neg n = omega (arith, ints)

pub neg_mono : (m n : ℕ) → m ≤ n → neg_ℤ (pos n) ≤ℤ neg_ℤ (pos m)
neg_mono m n h = omega (arith, ints)

pub abs_pos : (x : ℤ) → ¬ (x ≡ pos 0) → 0 < nat_abs x
abs_pos x h = omega (arith, ints)

pub abs_none : (x : ℤ) → nat_abs x ≡ 0 → x ≡ pos 0
abs_none x e = omega (arith, ints)

pub signed_abs : (x : ℤ) → signed (is_negative x) (nat_abs x) ≡ x
signed_abs x = grind (arith, ints)

pub signed_plus : (s : Bool) (a b : ℕ) → signed s (a + b) ≡ signed s a +ℤ signed s b
signed_plus s a b = grind (arith, ints)

pub signed_within : (s : Bool) (a b : ℕ) → a ≤ b → (neg_ℤ (pos b) ≤ℤ signed s a) × (signed s a ≤ℤ pos b)
signed_within s a b h = grind (arith, ints)

-- ---- signs
pub sign_above : (x : ℤ) → pos 0 <ℤ x → sign x ≡ pos 1
sign_above x h = grind (arith, ints)

pub sign_below : (x : ℤ) → x <ℤ pos 0 → sign x ≡ negsuc 0
sign_below x h = grind (arith, ints)

-- what lies between two numbers on one side of v lies on that side
pub sign_between : (v a s b : ℤ) → a ≤ℤ s → s ≤ℤ b → sign (v -ℤ a) ≡ sign (v -ℤ b) → sign (v -ℤ s) ≡ sign (v -ℤ a)
sign_between v a s b h g e = grind (arith, ints, common_steps)

pub negative_between : (a s b : ℤ) → a ≤ℤ s → s ≤ℤ b → is_negative a ≡ is_negative b → is_negative s ≡ is_negative a
negative_between a s b h g e = grind (arith, ints)
