-- The limbs so far and the carry are the limbs before and what was added.
use Rattle.std.proofs.Common.{◌≡◌, ◌+◌, ◌*◌, ◌^◌, ◌<◌, ◌≤◌, take, drop}
use Rattle.exact.specs.Limbs.{limbs_value}
use Rattle.limbs.proofs.top.add_unit.Given as goal

abbrev pub invariant-loop-limb : goal.invariant-loop-limb
invariant-loop-limb l = (l.carry < 4294967296) × (0 < l.limb-index → l.carry ≤ 1) × (drop l.limb-index l.limbs ≡ drop l.limb-index l.initial.limbs)
    × (limbs_value (take l.limb-index l.limbs) + l.carry * 2 ^ (32 * l.limb-index) ≡ limbs_value (take l.limb-index l.initial.limbs) + 2 ^ l.s)
