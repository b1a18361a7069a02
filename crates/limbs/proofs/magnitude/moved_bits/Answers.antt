-- A shift down, a shift up by 32 bits or more, and a short shift up.
use Rattle.std.proofs.Common.{◌≡◌, ◌-◌, ◌%◌, ◌^◌, div-one, arith}
use Rattle.std.proofs.lemmas.Nat.{mul-mod_first}
use Rattle.exact.proofs.LowDigits.{raised_away}
use Rattle.exact.proofs.Shifts.{shift_down, shift_up}
use Rattle.limbs.proofs.magnitude.moved_bits.Goals as goal

pub returns-then-up-down : goal.returns-then-up-down
returns-then-up-down g c =
    let n = g.M.Magnitude.value c.args.m.now in
    rw (shift_down n c.args.up c.args.down c.if-up-down.true) c.bits_at.ensures

pub returns-then-up-down-ge32 : goal.returns-then-up-down-ge32
returns-then-up-down-ge32 g c =
    let n = g.M.Magnitude.value c.args.m.now in
    rw (shift_up n c.args.up c.args.down (omega arith)) (raised_away n (c.args.up - c.args.down) c.if-up-down-ge32.true)

pub returns : goal.returns
returns g c =
    let n = g.M.Magnitude.value c.args.m.now in
    let t = c.args.up - c.args.down in
    let low : c.bits_at-2.result ≡ n % 4294967296 = rw (div-one n) at c.bits_at-2.ensures in
    rw (shift_up n c.args.up c.args.down (omega arith), low) (mul-mod_first n (2 ^ t) 4294967296)
