-- The lines that are written, and how each is spelled.
use Rattle.std.specs.Prelude.{ℕ, Bool, List, [], ◌∷◌, ◌++◌, codes, ℤ}
use Rattle.std.specs.Fmt.{decimal, signed_decimal}
use Rattle.forms.specs.Parts.{bracketed, sign_text, limbs_text}

-- A line that is written. A Bool says whether a sign is -.
pub data Written : Type 0 where
  -- a sum that was rounded: sign, exponent, precision, limbs, direction, depth
  sum : Bool → ℤ → ℕ → List ℕ → ℤ → ℕ → Written
  -- a zero: sign, direction, depth
  zero_sum : Bool → ℤ → ℕ → Written
  infinite_sum : Bool → Written
  no_sum : Written
  -- a refusal: its number, and the line and the byte that it blames, counted from 1
  refusal : ℕ → ℕ → ℕ → Written

-- the texts of a line
abbrev pub written_fields : Written → List (List ℕ)
written_fields (sum negative exponent precision limbs direction depth) =
    codes "sum" ∷ sign_text negative ∷ signed_decimal exponent ∷ decimal precision ∷ limbs_text limbs ∷ signed_decimal direction ∷ decimal depth ∷ []
written_fields (zero_sum negative direction depth) = codes "zero" ∷ sign_text negative ∷ signed_decimal direction ∷ decimal depth ∷ []
written_fields (infinite_sum negative) = codes "inf" ∷ sign_text negative ∷ []
written_fields no_sum = codes "nan" ∷ []
written_fields (refusal number line byte) = codes "no" ∷ decimal number ∷ decimal line ∷ decimal byte ∷ []

-- its spelling, with the byte 10 that ends it
abbrev pub written : Written → List ℕ
written w = bracketed (written_fields w) ++ (10 ∷ [])
