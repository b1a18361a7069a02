-- How long the line of a regular term is at most.
use Rattle.std.proofs.Common.{ℕ, ◌≤◌, Bool, List, length, ℤ, arith, length-append, w32, SFits}
use Rattle.std.proofs.lemmas.Fmt.{length-decimal-le}
use Rattle.batch.specs.Term.{most_digits}
use Rattle.forms.specs.Forms.{term, spelling}
use Rattle.line_writer.proofs.Lengths.{length-limbs, length-signed_decimal}
use Rattle.term_writer.specs.Outcome.{least_buffer}

pub length-term : (negative : Bool) (exponent : ℤ) (precision : ℕ) (limbs : List ℕ) → SFits w32 exponent → precision ≤ most_digits → length limbs ≤ 128 → length (spelling (term negative exponent precision limbs)) ≤ least_buffer
length-term negative exponent precision limbs e p l =
    simp length-append (omega (arith, length-signed_decimal exponent e, l, length-limbs limbs, length-decimal-le 4 precision (omega arith) (omega arith) (omega arith)))
