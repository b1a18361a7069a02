-- The lowest limb without its lowest bits.
use Rattle.std.proofs.Common.{◌≡◌, ℕ, ◌+◌, ◌-◌, ◌*◌, ◌/◌, ◌%◌, ◌^◌, ◌<◌, List, [], ◌∷◌, length, get_or, set, ap, ◌∙◌, arith}
use Rattle.std.proofs.lemmas.Nat.{one_shl}
use Rattle.exact.specs.Limbs.{limbs_value}
use Rattle.exact.proofs.LimbSteps.{clear_first}
use Rattle.limbs.proofs.top.clear_low.Goals as goal

cut : (xs : List ℕ) (s d : ℕ) → s < 32 → 0 < length xs → d ≡ 2 ^ s → limbs_value (set xs 0 (get_or xs 0 0 - get_or xs 0 0 % d)) ≡ limbs_value xs / 2 ^ s * 2 ^ s
cut [] s d h l e = absurd (omega arith)
cut (x ∷ xs) s d h l e = ap (λ (y : ℕ). (x - x % y) + 4294967296 * limbs_value xs) e ∙ clear_first x s xs h

pub returns : goal.returns
returns c = cut c.args.limbs.now c.args.s (1 * 2 ^ c.args.s % 4294967296) c.requires.low c.requires.some (one_shl c.args.s 32 c.requires.low)
