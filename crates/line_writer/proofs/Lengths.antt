-- How long the lines of answers and refusals are at most.
use Rattle.std.proofs.Common.{◌≡◌, ℕ, ◌-◌, ◌*◌, ◌^◌, ◌<◌, ◌≤◌, Bool, List, [], ◌∷◌, length, map, refl, ap, ◌∙◌, arith, length-append, w32, SFits}
use Rattle.std.specs.Prelude.{ℤ}
use Rattle.std.proofs.lemmas.Fmt.{length-decimal-le, length_signed_le}
use Rattle.std.specs.Fmt.{signed_decimal}
use Rattle.std.specs.List.{join_with_byte}
use Rattle.ends.specs.Directions.{direction_sign}
use Rattle.ends.specs.declared.direction.Direction.{Direction}
use Rattle.ends.specs.declared.direction.Direction.TheVariants.{Below, Exact, Above}
use Rattle.forms.specs.Parts.{limb_text}
use Rattle.forms.specs.Written.{sum, zero_sum, refusal, written}
use Rattle.line_writer.specs.Longest.{longest_answer, longest_refusal}
use Rattle.line_writer.proofs.HexDigits.{length-hex_digits}

-- nine bytes a limb, but for the last
pub length-limbs : (limbs : List ℕ) → length (join_with_byte 32 (map limb_text limbs)) ≡ 9 * length limbs - 1
length-limbs [] = refl
length-limbs (x ∷ []) = length-hex_digits 8 x
length-limbs (x ∷ y ∷ xs) =
    length-append (limb_text x) (32 ∷ join_with_byte 32 (map limb_text (y ∷ xs))) ∙ omega (arith, length-hex_digits 8 x, length-limbs (y ∷ xs))

-- of a number of 32 bits
pub length-signed_decimal : (z : ℤ) → SFits w32 z → length (signed_decimal z) ≤ 11
length-signed_decimal z h = length_signed_le 10 z (omega (arith, h.sfits)) (omega (arith, h.sfits))

-- of a direction
length-direction : (d : Direction) → length (signed_decimal (direction_sign d)) ≤ 2
length-direction Below = length_signed_le 1 (direction_sign Below) (omega arith) (omega arith)
length-direction Exact = length_signed_le 1 (direction_sign Exact) (omega arith) (omega arith)
length-direction Above = length_signed_le 1 (direction_sign Above) (omega arith) (omega arith)

-- the line of a sum
pub length-sum : (negative : Bool) (exponent : ℤ) (precision : ℕ) (limbs : List ℕ) (d : Direction) (direction : ℤ) (depth : ℕ) → SFits w32 exponent → precision < 2 ^ 32 → length limbs ≤ 128 → direction ≡ direction_sign d → depth < 2 ^ 32 → length (written (sum negative exponent precision limbs direction depth)) ≤ longest_answer
length-sum negative exponent precision limbs d direction depth e p l s c =
    simp length-append (omega (
      arith,
      length-signed_decimal exponent e,
      ap (λ z. length (signed_decimal z)) s,
      length-direction d,
      l,
      length-limbs limbs,
      length-decimal-le 10 precision (omega arith) (omega arith) (omega arith),
      length-decimal-le 10 depth (omega arith) (omega arith) (omega arith),
    ))

-- the line of a zero
pub length-zero_sum : (negative : Bool) (d : Direction) (direction : ℤ) (depth : ℕ) → direction ≡ direction_sign d → depth < 2 ^ 32 → length (written (zero_sum negative direction depth)) ≤ longest_answer
length-zero_sum negative d direction depth s c =
    simp length-append (omega (arith, ap (λ z. length (signed_decimal z)) s, length-direction d, length-decimal-le 10 depth (omega arith) (omega arith) (omega arith)))

-- the line of a refusal
pub length-refusal : (number line byte : ℕ) → number < 2 ^ 32 → line < 2 ^ 64 → byte < 2 ^ 64 → length (written (refusal number line byte)) ≤ longest_refusal
length-refusal number line byte n l b =
    simp length-append (omega (arith, length-decimal-le 10 number (omega arith) (omega arith) (omega arith), length-decimal-le 20 line (omega arith) (omega arith) l, length-decimal-le 20 byte (omega arith) (omega arith) b))
