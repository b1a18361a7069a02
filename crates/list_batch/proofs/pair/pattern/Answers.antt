-- The pattern of a not-a-number, and that of any other float.
use Rattle.std.proofs.Common.{sym, ap, ◌∙◌, rules}
use lib.Ieee.{binary64, to_bits, of_bits, nan}
use lib.Ieee.Bits.{of_bits-to_bits}
use Rattle.list_batch.proofs.FloatBits.{to_bits_lem, is_nan_lem, nan_bits, nan_fits}
use Rattle.list_batch.proofs.pair.pattern.Goals as goal

pub returns-then-is_nan : goal.returns-then-is_nan
returns-then-is_nan c =
    let e = is_nan_lem c.args.x c.if-is_nan.ensures.value in
    record {
      bits = sym (ap (to_bits binary64) e ∙ nan_bits);
      back = ap (of_bits binary64) (sym nan_bits) ∙ of_bits-to_bits binary64 nan nan_fits ∙ sym e;
      worth = e;
    }

pub returns-clause-back : goal.returns-clause-back
returns-clause-back c = search (rules, of_bits-to_bits)

pub returns-clause-worth : goal.returns-clause-worth
returns-clause-worth c = search (rules, to_bits_lem)
