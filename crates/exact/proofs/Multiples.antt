-- Multiples of a natural number d, above all of a power of two, on both sides of n.
use Rattle.std.proofs.Common.{◌≡◌, ℕ, ◌+◌, ◌-◌, ◌*◌, ◌/◌, ◌%◌, ◌^◌, ◌<◌, ◌≤◌, sym, ap, ◌∙◌, mul_assoc, mul-le-mul, div-add-mod', arith, pow_pos, pow_mono, pow-add}
use native.Mathlib.Nat.{mul-mod_left}

pub pow_split : (a b : ℕ) → b ≤ a → 2 ^ a ≡ 2 ^ (a - b) * 2 ^ b
pow_split a b h = ap (λ (x : ℕ). 2 ^ x) (let e : a ≡ a - b + b = omega arith in e) ∙ pow-add 2 (a - b) b

-- a higher power is a multiple of a lower one
pub pow_multiple : (a b : ℕ) → b ≤ a → 2 ^ a % 2 ^ b ≡ 0
pow_multiple a b h = ap (λ (x : ℕ). x % 2 ^ b) (pow_split a b h) ∙ mul-mod_left (2 ^ (a - b)) (2 ^ b)

pub multiple_whole : (n d : ℕ) → n % d ≡ 0 → n ≡ n / d * d
multiple_whole n d h = omega (arith, div-add-mod' n d)

-- a multiple of 2 ^ a is one of 2 ^ b
pub multiple_coarser : (n a b : ℕ) → b ≤ a → n % 2 ^ a ≡ 0 → n % 2 ^ b ≡ 0
multiple_coarser n a b h e =
    let q : n ≡ n / 2 ^ a * 2 ^ (a - b) * 2 ^ b = multiple_whole n (2 ^ a) e ∙ ap (λ (x : ℕ). n / 2 ^ a * x) (pow_split a b h) ∙ sym (mul_assoc (n / 2 ^ a) (2 ^ (a - b)) (2 ^ b)) in
    ap (λ (x : ℕ). x % 2 ^ b) q ∙ mul-mod_left (n / 2 ^ a * 2 ^ (a - b)) (2 ^ b)

-- a multiple that is not 0 is d at least
pub multiple_ge : (n d : ℕ) → n % d ≡ 0 → 0 < n → d ≤ n
multiple_ge n d e h = grind arith

-- ---- the greatest multiple up to n
pub le_cut : (n d g : ℕ) → 0 < d → g % d ≡ 0 → g ≤ n → g ≤ n / d * d
le_cut n d g D e h = grind arith

-- ---- the least multiple from n on
pub away_ge : (n d : ℕ) → 0 < d → n ≤ (n + (d - 1)) / d * d
away_ge n d D = omega arith

pub away_le : (n d g : ℕ) → 0 < d → g % d ≡ 0 → n ≤ g → (n + (d - 1)) / d * d ≤ g
away_le n d g D e h = grind arith

pub away_below : (n d : ℕ) → 0 < d → (n + (d - 1)) / d * d < n + d
away_below n d D = omega arith

-- ---- room below a power
spare : (n d c t : ℕ) → 0 < d → t ≤ n * c → n * (d - 1) * c + t ≤ n * (d * c)
spare n d c t h g = grind arith

-- n times 2 ^ g - 1 units of 2 ^ b, and k of 2 ^ a, are at most n of 2 ^ (g + b)
pub room : (n k g b a : ℕ) → k ≤ n → a ≤ b → n * (2 ^ g - 1) * 2 ^ b + k * 2 ^ a ≤ n * 2 ^ (g + b)
room n k g b a h l = rw (pow-add 2 g b) (spare n (2 ^ g) (2 ^ b) (k * 2 ^ a) (pow_pos g) (mul-le-mul h (pow_mono l)))
