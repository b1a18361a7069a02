-- What limbs stand for.
use Rattle.std.proofs.Common.{◌≡◌, ℕ, ◌+◌, ◌*◌, ◌^◌, ◌<◌, List, [], ◌∷◌, length, ◌∙◌, add_comm, mul-suc, arith, pow-add}
use Rattle.exact.specs.Limbs.{Limbs, limbs_value}

pub limbs_lt : (xs : List ℕ) → Limbs xs → limbs_value xs < 2 ^ (32 * length xs)
limbs_lt [] h = omega arith
limbs_lt (x ∷ xs) (h, g) =
    let n = 32 * length xs in
    let e : 32 * length (x ∷ xs) ≡ 32 + n = mul-suc 32 (length xs) ∙ add_comm n 32 in
    let below = limbs_lt xs g in
    rw (e, pow-add 2 32 n) (omega arith)
