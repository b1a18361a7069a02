-- Limbs that are 0.
use Rattle.std.proofs.Common.{◌≡◌, ℕ, zero, suc, ◌+◌, ◌-◌, ◌*◌, ◌^◌, ◌<◌, ◌≤◌, List, [], ◌∷◌, ◌++◌, length, get_or, drop, set, refl, ap, inl, inr, eq-zero-or-pos, mul_assoc, mul_comm, arith}
use Rattle.std.specs.Prelude.{replicate}
use Rattle.exact.proofs.LimbBits.{pow_next_limb}
use Rattle.std.proofs.lemmas.List.{get_or_past}
use Rattle.exact.specs.Limbs.{limbs_value}

no_value : (xs : List ℕ) → ((k : ℕ) → k < length xs → get_or xs k 0 ≡ 0) → limbs_value xs ≡ 0
no_value [] none = refl
no_value (x ∷ xs) none =
    let first : x ≡ 0 = none 0 (omega arith) in
    let rest = no_value xs (λ k l. none (suc k) (omega arith)) in
    omega arith

-- with nothing from limb i on
pub no_value_from : (i : ℕ) (xs : List ℕ) → ((k : ℕ) → i ≤ k → k < length xs → get_or xs k 0 ≡ 0) → limbs_value (drop i xs) ≡ 0
no_value_from zero xs none = no_value xs (λ k l. none k (omega arith) l)
no_value_from (suc i) [] none = refl
no_value_from (suc i) (x ∷ xs) none = no_value_from i xs (λ k h l. none (suc k) (omega arith) (omega arith))

-- past the last limb there is nothing
pub zero_past : (xs : List ℕ) (i : ℕ) → ((k : ℕ) → k < i → k < length xs → get_or xs k 0 ≡ 0) → (k : ℕ) → k < i → get_or xs k 0 ≡ 0
zero_past xs i none k h = elim (eq-zero-or-pos (length xs - k)) [
  | inl z ↦ get_or_past xs k 0 (omega arith)
  | inr p ↦ none k h (omega arith)
]

pub zeros : (n : ℕ) → limbs_value (replicate n 0) ≡ 0
zeros zero = refl
zeros (suc n) = let h = zeros n in omega arith

-- limbs of 0 above the others
pub value_padded : (xs : List ℕ) (n : ℕ) → limbs_value (xs ++ replicate n 0) ≡ limbs_value xs
value_padded [] n = zeros n
value_padded (x ∷ xs) n = ap (λ (y : ℕ). x + 4294967296 * y) (value_padded xs n)

-- one limb among limbs of 0
pub value_alone : (n i v : ℕ) → i < n → limbs_value (set (replicate n 0) i v) ≡ v * 2 ^ (32 * i)
value_alone zero i v h = absurd (omega arith)
value_alone (suc n) zero v h = let z = zeros n in omega arith
value_alone (suc n) (suc i) v h =
    let t = value_alone n i v (omega arith) in
    rw (pow_next_limb i) (omega (arith, t, mul_assoc v 4294967296 (2 ^ (32 * i)), mul_assoc 4294967296 v (2 ^ (32 * i)), mul_comm v 4294967296))
