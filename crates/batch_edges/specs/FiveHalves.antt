-- The one term of a batch: 5 * 2 ^ -1.
use Rattle.std.specs.Prelude.{◌≡◌, false, List, [], ◌∷◌, negsuc}
use Rattle.std.specs.Float.Ieee.{size}
use Rattle.std.proofs.Common.{arith}
use Rattle.std.proofs.lemmas.Int.{ints}
use Rattle.exact.proofs.BitLength.{size_is}
use Rattle.batch.specs.Term.{Term, regular, Batchable}

abbrev pub five_halves : List Term
five_halves = regular false 5 (negsuc 0) ∷ []

pub five_digits : size 5 ≡ 3
five_digits = size_is 5 2 (omega arith) (omega arith)

pub five_halves_batchable : Batchable five_halves
five_halves_batchable =
    record {
      few = omega arith;
      each_limited = (
        record {
          some_digit = omega (arith, five_digits);
          few_digits = omega (arith, five_digits);
          not_below = omega (arith, ints, five_digits);
          not_above = omega (arith, ints, five_digits);
        },
        tt,
      );
    }
