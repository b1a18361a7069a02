-- Natural numbers as limbs of 32 bits, the least significant first.
use Rattle.std.specs.Prelude.{ℕ, ◌+◌, ◌*◌, ◌^◌, ◌<◌, List, [], ◌∷◌}
use Rattle.std.specs.List.{AllByRecursion}

-- each limb has at most 32 bits
abbrev pub Limbs : List ℕ → Type 0
Limbs xs = AllByRecursion (λ x. x < 2 ^ 32) xs

-- the number that the limbs stand for
abbrev pub limbs_value : List ℕ → ℕ
limbs_value [] = 0
limbs_value (x ∷ xs) = x + 2 ^ 32 * limbs_value xs
