-- The first limbs of a number, and 0 above them, are that number in limbs.
use Rattle.std.proofs.Common.{◌≡◌, ℕ, zero, suc, ◌+◌, ◌*◌, ◌/◌, ◌%◌, ◌<◌, ◌≤◌, List, [], ◌∷◌, ◌++◌, length, take, get_or, refl, ap, ◌∙◌, arith}
use Rattle.std.specs.Prelude.{replicate}
use Rattle.exact.specs.Limbs.{limbs_value}
use Rattle.answers.specs.Published.{limbs_of}

joined : {x y : ℕ} {xs ys : List ℕ} → x ≡ y → xs ≡ ys → x ∷ xs ≡ y ∷ ys
joined e es = cc

zeros : (n : ℕ) → replicate n 0 ≡ limbs_of n 0
zeros zero = refl
zeros (suc n) = joined refl (zeros n)

pub padded : (m k : ℕ) (xs : List ℕ) → m ≤ length xs → (0 < k → m ≡ length xs) → ((j : ℕ) → j < length xs → get_or xs j 0 < 4294967296)
    → take m xs ++ replicate k 0 ≡ limbs_of (m + k) (limbs_value xs)
padded zero k [] few all small = let e : k ≡ 0 + k = omega arith in zeros k ∙ ap (λ (n : ℕ). limbs_of n 0) e
padded zero zero (x ∷ xs) few all small = refl
padded zero (suc k) (x ∷ xs) few all small = let none = all (omega arith) in absurd (omega arith)
padded (suc m) k [] few all small = absurd (omega arith)
padded (suc m) k (x ∷ xs) few all small =
    let here = small 0 (omega arith) in
    let first : x ≡ (x + 4294967296 * limbs_value xs) % 4294967296 = omega arith in
    let rest : limbs_value xs ≡ (x + 4294967296 * limbs_value xs) / 4294967296 = omega arith in
    let others = padded m k xs (omega arith) (λ h. omega (arith, all h)) (λ j h. small (suc j) (omega arith)) in
    let more : suc (m + k) ≡ suc m + k = omega arith in
    joined first (others ∙ ap (limbs_of (m + k)) rest) ∙ ap (λ (n : ℕ). limbs_of n (x + 4294967296 * limbs_value xs)) more
