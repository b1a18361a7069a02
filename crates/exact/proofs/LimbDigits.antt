-- Digits of the number that limbs stand for: how many it has, and its lowest ones.
use Rattle.std.proofs.Common.{◌≡◌, ℕ, suc, ◌+◌, ◌-◌, ◌*◌, ◌%◌, ◌^◌, ◌<◌, ◌≤◌, List, [], ◌∷◌, length, get_or, sym, refl, ap, ◌∙◌, arith, pow-add}
use lib.Pow.{mod-mod-pow}
use lib.Ieee.{size}
use Rattle.exact.specs.Limbs.{Limbs, limbs_value}
use Rattle.exact.proofs.BitLength.{size_is}
use Rattle.exact.proofs.Limbs.{limbs_lt}

-- ---- how many digits
-- a number with a full last limb
full_limb_ge : (x : ℕ) (xs : List ℕ) → 2 ^ 31 ≤ get_or (x ∷ xs) (length xs) 0 → 2 ^ (32 * length xs + 31) ≤ limbs_value (x ∷ xs)
full_limb_ge x [] h = omega arith
full_limb_ge x (y ∷ xs) h =
    let e : 32 * suc (length xs) + 31 ≡ 32 + (32 * length xs + 31) = omega arith in
    let p : 2 ^ (32 * suc (length xs) + 31) ≡ 2 ^ 32 * 2 ^ (32 * length xs + 31) = ap (λ n. 2 ^ n) e ∙ pow-add 2 32 (32 * length xs + 31) in
    let r = full_limb_ge y xs h in
    omega arith

pub size_full : (xs : List ℕ) → Limbs xs → 0 < length xs → 2 ^ 31 ≤ get_or xs (length xs - 1) 0 → size (limbs_value xs) ≡ 32 * length xs
size_full [] w h t = absurd (omega arith)
size_full (x ∷ xs) w h t =
    let e : suc (length xs) - 1 ≡ length xs = omega arith in
    let f : suc (32 * length xs + 31) ≡ 32 * suc (length xs) = omega arith in
    let u : 2 ^ 31 ≤ get_or (x ∷ xs) (length xs) 0 = rw e at t in
    let b : limbs_value (x ∷ xs) < 2 ^ suc (32 * length xs + 31) = rw f (limbs_lt (x ∷ xs) w) in
    size_is (limbs_value (x ∷ xs)) (32 * length xs + 31) (full_limb_ge x xs u) b ∙ f

-- ---- the lowest digits
pub lowest_bits : (xs : List ℕ) (s c : ℕ) → s + c ≡ 32 → limbs_value xs % 2 ^ s ≡ get_or xs 0 0 % 2 ^ s
lowest_bits [] s c h = refl
lowest_bits (x ∷ xs) s c h =
    let e : c + s ≡ 32 = omega arith in
    let a : limbs_value (x ∷ xs) % 2 ^ 32 % 2 ^ s ≡ limbs_value (x ∷ xs) % 2 ^ s = rw e at (mod-mod-pow (limbs_value (x ∷ xs)) c s) in
    let b : x % 2 ^ 32 % 2 ^ s ≡ x % 2 ^ s = rw e at (mod-mod-pow x c s) in
    let m : limbs_value (x ∷ xs) % 2 ^ 32 ≡ x % 2 ^ 32 = omega arith in
    sym a ∙ ap (λ n. n % 2 ^ s) m ∙ b
