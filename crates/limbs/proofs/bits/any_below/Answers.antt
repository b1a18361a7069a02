-- A limb that is not 0 is something; and else the last limb decides.
use Rattle.std.proofs.Common.{◌≡◌, ◌≢◌, ℕ, ◌*◌, ◌/◌, ◌%◌, ◌^◌, ◌<◌, not, eqb, ltb, length, get_or, sym, ap, ◌∙◌, arith, rules}
use Rattle.std.proofs.iter.runs.Made.{chains}
use Rattle.std.proofs.lemmas.Nat.{one_shl}
use Rattle.exact.proofs.LimbBits.{some_below, any_in_last_limb}
use Rattle.limbs.proofs.ZeroLimbs.{zero_past}
use Rattle.limbs.proofs.bits.any_below.Goals as goal

pub returns-then-any : goal.returns-then-any
returns-then-any c =
    let xs = c.args.limbs.now in
    let some : (j : ℕ) × (j < c.args.at / 32) × (get_or xs j 0 ≢ 0) = search (rules, chains) in
    c.if-any.true ∙ sym (some_below xs some.0 c.args.at (λ i l. (c.type_inv.limbs i).fits) (omega arith) some.2)

not_zero : (x : ℕ) → not (eqb x 0) ≡ ltb 0 x
not_zero x = grind arith

last_limb : (x k : ℕ) → not (eqb (x % (1 * 2 ^ (k % 32) % 18446744073709551616)) 0) ≡ ltb 0 (x % 2 ^ (k % 32))
last_limb x k = not_zero _ ∙ ap (λ (y : ℕ). ltb 0 (x % y)) (one_shl (k % 32) 64 (omega arith))

pub returns-else-any : goal.returns-else-any
returns-else-any c =
    let xs = c.args.limbs.now in
    let k = c.args.at in
    let none : (j : ℕ) → j < k / 32 → j < length xs → get_or xs j 0 ≡ 0 = search (rules, chains) in
    last_limb c.limb.result k
    ∙ ap (λ (y : ℕ). ltb 0 (y % 2 ^ (k % 32))) c.limb.ensures
    ∙ sym (any_in_last_limb xs k (λ i l. (c.type_inv.limbs i).fits) (zero_past xs (k / 32) none))
