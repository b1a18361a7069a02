use Rattle.std.proofs.Common.{◌≡◌, ◌++◌, length, drop}
use Rattle.forms.specs.Parts.{hex_digits}
use Rattle.line_writer.proofs.limb.hex_digits.Given as goal

abbrev pub invariant-loop-digit : goal.invariant-loop-digit
invariant-loop-digit l = (length l.digits ≡ 8) × (hex_digits l.digit l.rest ++ drop l.digit l.digits ≡ hex_digits 8 l.fn.limb)
