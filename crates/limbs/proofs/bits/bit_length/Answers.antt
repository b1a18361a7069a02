-- The highest limb that is not 0 has the highest bit.
use Rattle.std.proofs.Common.{◌≡◌, ℕ, ◌+◌, ◌<◌, ◌≤◌, length, get_or, sym, ap, rules}
use Rattle.std.proofs.iter.runs.Made.{chains}
use lib.Ieee.{size}
use Rattle.exact.proofs.LimbBits.{size_by_top_limb}
use Rattle.limbs.proofs.ZeroLimbs.{no_value_from}
use Rattle.limbs.proofs.bits.bit_length.Goals as goal

pub returns-in-Some-clause-is : goal.returns-in-Some-clause-is
returns-in-Some-clause-is c =
    let xs = c.args.limbs.now in
    let i = c.in-Some.i in
    let inside : i < length xs = search rules in
    let some : 0 < get_or xs i 0 = search (rules, chains) in
    let none : (k : ℕ) → i + 1 ≤ k → k < length xs → get_or xs k 0 ≡ 0 = search (rules, chains) in
    sym (size_by_top_limb xs i (λ k l. (c.type_inv.limbs k).fits) inside (no_value_from (i + 1) xs none) some)

pub returns-in-None-clause-is : goal.returns-in-None-clause-is
unfolding size
returns-in-None-clause-is c =
    let none : (k : ℕ) → 0 ≤ k → k < length c.args.limbs.now → get_or c.args.limbs.now k 0 ≡ 0 = search (rules, chains) in
    ap size (sym (no_value_from 0 c.args.limbs.now none))
