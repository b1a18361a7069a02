-- The first p bits of a number at the top of the limbs that hold them, and one unit more.
use Rattle.std.proofs.Common.{◌≡◌, ℕ, suc, List, [], ◌∷◌, length, ◌+◌, ◌-◌, ◌*◌, ◌/◌, ◌^◌, ◌<◌, ◌≤◌, Bool, true, false, sym, ap, ◌∙◌, subst, lt_of_mul-lt-mul_right, le_of_mul-le-mul_right, arith, pow_pos, pow-add, shr-shr}
use Rattle.std.proofs.lemmas.Nat.{shl_below}
use Rattle.exact.specs.Limbs.{limbs_value}
use Rattle.exact.proofs.LimbBits.{SmallLimbs, pow_next_limb}
use Rattle.exact.proofs.Shifts.{shift_both}
use Rattle.limbs.specs.Bits.{bit, limbs_for}
use Rattle.limbs.specs.Written.{Written}

-- how many bits of the lowest limb are not used
abbrev pub unused : ℕ → ℕ
unused p = 32 * limbs_for p - p

pub cut_again : (n b p : ℕ) → n * 2 ^ (32 * limbs_for p) / 2 ^ b / 2 ^ unused p ≡ n * 2 ^ p / 2 ^ b
cut_again n b p =
    shr-shr (n * 2 ^ (32 * limbs_for p)) b (unused p) ∙ ap (λ (y : ℕ). n * 2 ^ y / 2 ^ (b + unused p)) (let e : 32 * limbs_for p ≡ p + unused p = omega arith in e) ∙ shift_both n p b (unused p)

-- all the bits that L limbs hold, and then the lowest made 0
pub cut_at : (n b p L all cut : ℕ) → L ≡ limbs_for p → all ≡ n * 2 ^ (32 * L) / 2 ^ b → cut ≡ all / 2 ^ (32 * L - p) * 2 ^ (32 * L - p) → cut ≡ n * 2 ^ p / 2 ^ b * 2 ^ unused p
cut_at n b p L all cut e f g =
    g ∙ ap (λ (y : ℕ). y / 2 ^ (32 * L - p) * 2 ^ (32 * L - p)) f ∙ ap (λ (y : ℕ). n * 2 ^ (32 * y) / 2 ^ b / 2 ^ (32 * y - p) * 2 ^ (32 * y - p)) e ∙ ap (λ (y : ℕ). y * 2 ^ unused p) (cut_again n b p)

pow_used : (p : ℕ) → 2 ^ p * 2 ^ unused p ≡ 2 ^ (32 * limbs_for p)
pow_used p = sym (pow-add 2 p (unused p)) ∙ ap (λ (y : ℕ). 2 ^ y) (let e : p + unused p ≡ 32 * limbs_for p = omega arith in e)

pub unit_fits : (q p : ℕ) → q < 2 ^ p → q * 2 ^ unused p < 2 ^ (32 * limbs_for p)
unit_fits q p h =
    let e : p + unused p ≡ 32 * limbs_for p = omega arith in
    subst (λ (y : ℕ). q * 2 ^ unused p < 2 ^ y) e (shl_below q p (unused p) h)

raised_fits : (q p a : ℕ) (r : Bool) → q < 2 ^ p → a + bit r * 2 ^ (32 * limbs_for p) ≡ q * 2 ^ unused p + 2 ^ unused p → a < 2 ^ (32 * limbs_for p) → Written (q + 1) p r a
raised_fits q p a false h e l =
    let s = unused p in
    let P = pow_used p in
    let i : a ≡ (q + 1) * 2 ^ s = omega arith in
    (i, lt_of_mul-lt-mul_right (2 ^ s) (omega arith))
raised_fits q p a true h e l =
    let s = unused p in
    let P = pow_used p in
    let i : 2 ^ p ≤ q + 1 = le_of_mul-le-mul_right {k = 2 ^ s} (omega arith) (pow_pos s) in
    omega arith

-- nothing added
pub cut_fits : (q p cut : ℕ) → q < 2 ^ p → cut ≡ q * 2 ^ unused p → Written (q + 0) p false cut
cut_fits q p cut h e =
    let same : q ≡ q + 0 = omega arith in
    (e ∙ ap (λ (y : ℕ). y * 2 ^ unused p) same, subst (λ (y : ℕ). y < 2 ^ p) same h)

-- the unit added in the L limbs that hold p bits
pub raised_at : (q p L cut a : ℕ) (r : Bool) → L ≡ limbs_for p → q < 2 ^ p → cut ≡ q * 2 ^ unused p → a + bit r * 2 ^ (32 * L) ≡ cut + 2 ^ (32 * L - p) → a < 2 ^ (32 * L) → Written (q + 1) p r a
raised_at q p L cut a r e h f sum l =
    let at : a + bit r * 2 ^ (32 * limbs_for p) ≡ cut + 2 ^ unused p = subst (λ (y : ℕ). a + bit r * 2 ^ (32 * y) ≡ cut + 2 ^ (32 * y - p)) e sum in
    raised_fits q p a r h (at ∙ ap (λ (y : ℕ). y + 2 ^ unused p) f) (subst (λ (y : ℕ). a < 2 ^ (32 * y)) e l)

pub limbs_below : (xs : List ℕ) → SmallLimbs xs → limbs_value xs < 2 ^ (32 * length xs)
limbs_below [] small = omega arith
limbs_below (x ∷ xs) small =
    let first : x < 4294967296 = small 0 (omega arith) in
    let rest = limbs_below xs (λ i l. small (suc i) (omega arith)) in
    rw (pow_next_limb (length xs)) (omega arith)
