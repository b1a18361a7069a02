-- The limbs that are copied, and those above them that are cleared.
use Rattle.std.proofs.Common.{◌≡◌, ◌-◌, ◌+◌, ◌++◌, List, ℕ, length, take, ap, ◌∙◌, arith, rules}
use Rattle.std.specs.Prelude.{replicate}
use Rattle.exact.specs.Limbs.{limbs_value}
use Rattle.answers.specs.Published.{limbs_of}
use Rattle.ask.proofs.CopiedLimbs.{padded}
use Rattle.ask.proofs.compute.copy_limbs.Goals as goal

pub returns : goal.returns
returns c =
    let xs = c.args.from.now in
    let n = length c.args.limbs.now in
    let m = c.min-copied.result in
    let low : c.copy_from_slice.new.self ≡ take m xs = search rules in
    let high : c.fill.new.self ≡ replicate (n - m) 0 = search rules in
    let all : m + (n - m) ≡ n = omega (arith, c.min-copied.ensures) in
    ap (λ (l : List ℕ). l ++ c.fill.new.self) low
    ∙ ap (λ (l : List ℕ). take m xs ++ l) high
    ∙ padded m (n - m) xs (search rules) (search rules) (search rules)
    ∙ ap (λ (k : ℕ). limbs_of k (limbs_value xs)) all
