use Rattle.std.proofs.Common.{◌+◌, ◌-◌, ◌*◌, ◌≡◌, arith, rules}
use Rattle.fields.proofs.HeldLimbs.{limb_within}
use Rattle.fields.proofs.held.Limbs.digits.Goals as goal

pub overflow_mul-start : goal.overflow_mul-start
overflow_mul-start c = omega (arith, limb_within c.args.i c.args.self.now.text.now c.requires)

pub overflow_add-result : goal.overflow_add-result
overflow_add-result c = omega (arith, limb_within c.args.i c.args.self.now.text.now c.requires)

pub slice_bounds-result-end : goal.slice_bounds-result-end
slice_bounds-result-end c = let within = limb_within c.args.i c.args.self.now.text.now c.requires in search rules

pub returns : goal.returns
returns c = let eight : 9 * c.args.i + 8 - 9 * c.args.i ≡ 8 = omega arith in rw eight
