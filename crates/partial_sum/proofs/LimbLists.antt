-- Limbs of one length that stand for one number are the same.
use Rattle.std.proofs.Common.{◌≡◌, ℕ, suc, ◌^◌, ◌<◌, List, [], ◌∷◌, length, get_or, refl, ap, ◌∙◌, arith}
use Rattle.exact.specs.Limbs.{limbs_value}

pub limbs_same : (xs ys : List ℕ) → length xs ≡ length ys → ((i : ℕ) → get_or xs i 0 < 2 ^ 32) → ((i : ℕ) → get_or ys i 0 < 2 ^ 32) → limbs_value xs ≡ limbs_value ys → xs ≡ ys
limbs_same [] [] l f g e = refl
limbs_same [] (y ∷ ys) l f g e = absurd (omega arith)
limbs_same (x ∷ xs) [] l f g e = absurd (omega arith)
limbs_same (x ∷ xs) (y ∷ ys) l f g e =
    let a : x < 4294967296 = f 0 in
    let b : y < 4294967296 = g 0 in
    let first : x ≡ y = omega arith in
    let rest : limbs_value xs ≡ limbs_value ys = omega arith in
    ap (λ (n : ℕ). n ∷ xs) first ∙ ap (λ (l : List ℕ). y ∷ l) (limbs_same xs ys (omega arith) (λ i. f (suc i)) (λ i. g (suc i)) rest)
