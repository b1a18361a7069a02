use Rattle.std.proofs.Common.{◌≡◌, ◌+◌, ◌-◌, ◌++◌, drop, ap, ◌∙◌, arith, length-set}
use Rattle.forms.specs.Parts.{hex_digits}
use Rattle.line_writer.proofs.HexDigits.{hex_digits-set, hex_digits-none}
use Rattle.line_writer.proofs.limb.hex_digits.Goals as goal

pub loop-digit-preserved : goal.loop-digit-preserved
loop-digit-preserved c =
    let k = c.loop-digit.digit - 1 in
    let e : k + 1 ≡ c.loop-digit.digit = omega arith in (
      simp length-set c.loop-digit.invariant.0,
      hex_digits-set k c.loop-digit.rest _ c.loop-digit.digits (omega (arith, c.loop-digit.invariant.0)) c.hex_digit.ensures
          ∙ ap (λ n. hex_digits n c.loop-digit.rest ++ drop n c.loop-digit.digits) e
          ∙ c.loop-digit.invariant.1,
    )

pub returns : goal.returns
returns c = hex_digits-none c.loop-digit.digit c.loop-digit.rest c.loop-digit.digits (omega arith) ∙ c.loop-digit.invariant.1
