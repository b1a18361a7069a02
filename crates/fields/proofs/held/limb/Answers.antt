use Rattle.std.proofs.Common.{◌+◌, ◌*◌, ap, ◌∙◌, arith}
use Rattle.fields.proofs.HexDigits.{more-digits}
use Rattle.fields.proofs.held.limb.Goals as goal

pub overflow_mul-limb : goal.overflow_mul-limb
overflow_mul-limb c =
    let more = more-digits c.args.digits.now c.loop-byte.byte-index c.loop-byte.limb c.requires.digits c.requires.few (omega arith) c.loop-byte.invariant in
    omega (arith, more.fits)

pub digit-requires : goal.digit-requires
digit-requires c = (more-digits c.args.digits.now c.loop-byte.byte-index c.loop-byte.limb c.requires.digits c.requires.few (omega arith) c.loop-byte.invariant).digit

pub overflow_add-limb : goal.overflow_add-limb
overflow_add-limb c =
    let more = more-digits c.args.digits.now c.loop-byte.byte-index c.loop-byte.limb c.requires.digits c.requires.few (omega arith) c.loop-byte.invariant in
    omega (arith, more.fits, c.digit.ensures)

pub loop-byte-preserved : goal.loop-byte-preserved
loop-byte-preserved c =
    let more = more-digits c.args.digits.now c.loop-byte.byte-index c.loop-byte.limb c.requires.digits c.requires.few (omega arith) c.loop-byte.invariant in
    ap (λ d. c.loop-byte.limb * 16 + d) c.digit.ensures ∙ more.value
