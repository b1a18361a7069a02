-- The answer to an ask, as it is published: one definition, over marks, terms, a grid and a mode.
use Rattle.std.specs.Prelude.{ℕ, zero, suc, ◌*◌, ◌/◌, ◌%◌, ◌^◌, Bool, true, false, cond, List, [], ◌∷◌, ℤ, pos, ◌-ℤ◌, ◌==◌, unsigned_abs}
use Rattle.exact.specs.Integers.{is_negative, gap}
use Rattle.exact.specs.Dyadic.{Dyadic, exponent}
use Rattle.grid.specs.Rounding.{Mode, nearest, downward, upward, toward_zero, away_from_zero, Answer, rounded}
use Rattle.limbs.specs.Bits.{limbs_for}
use Rattle.batch.specs.Term.{Term, whole_units}
use Rattle.batch.specs.TermKinds.{kind_number, infinity, zero_of_sign, number_of_sign}
use Rattle.batch.specs.declared.kind.Kind.{Kind}
use Rattle.batch.specs.declared.kind.Kind.TheVariants.{NotANumber}
use Rattle.sheet.specs.declared.mark.Mark.{Mark}
use Rattle.column.specs.Parts.{Part, exact_sum}
use Rattle.column.specs.PartsOf.{parts_of}
use Rattle.column.specs.Depth.{depth}
use Rattle.survey.specs.Kinds.{counted_kinds, has, zero_negative, class_of_sum}
use Rattle.survey.specs.declared.class.SumClass.{SumClass}
use Rattle.survey.specs.declared.class.SumClass.TheVariants.{NotANumber as NanSum, Infinite, Number}

-- An answer: the number of its kind, its exponent and precision, on which side of the exact sum it lies (-1, 0 or 1), its depth, and all the limbs that were lent for it.
-- A regular answer is a fraction from 1/2 up to 1, of `precision` bits at the top of its limbs, times 2 ^ exponent.
pub record Published : Type 0 where
  pub kind : ℕ
  pub exponent : ℤ
  pub precision : ℕ
  pub direction : ℤ
  pub depth : ℕ
  pub limbs : List ℕ

-- a number in n limbs of 32 bits, the least significant first
abbrev pub limbs_of : ℕ → ℕ → List ℕ
limbs_of zero v = []
limbs_of (suc n) v = v % 2 ^ 32 ∷ limbs_of n (v / 2 ^ 32)

-- an answer that is not regular: its exponent, precision and limbs are 0
abbrev pub plain : Kind → ℤ → ℕ → ℕ → Published
plain k direction depth room = record { kind = kind_number k; exponent = pos 0; precision = 0; direction = direction; depth = depth; limbs = limbs_of room 0 }

-- the grid number v, which is not 0, as an answer: e is its exponent, and it has e - u(e) bits
abbrev pub regular_answer : (ℤ → ℤ) → Dyadic → ℤ → ℕ → ℕ → Published
regular_answer u v direction depth room =
    let e = exponent v in
    let p = gap e (u e) in
    record {
      kind = kind_number (number_of_sign (is_negative v.count));
      exponent = e;
      precision = p;
      direction = direction;
      depth = depth;
      limbs = limbs_of room (whole_units (unsigned_abs v.count) v.weight (e -ℤ pos (32 * limbs_for p)));
    }

-- is it 0?
abbrev pub is_zero : Dyadic → Bool
is_zero x = unsigned_abs x.count == 0

-- what a sum other than 0 was rounded to, as an answer; a 0 has the sign of the sum
abbrev pub rounded_answer : (ℤ → ℤ) → Answer → ℕ → ℕ → Published
rounded_answer u a depth room = cond (is_zero a.value) (plain (zero_of_sign a.negative) a.direction depth room) (regular_answer u a.value a.direction depth room)

-- are sums rounded down?
abbrev pub is_downward : Mode → Bool
is_downward nearest = false
is_downward downward = true
is_downward upward = false
is_downward toward_zero = false
is_downward away_from_zero = false

-- the exact sum of the parts, rounded once; an exact 0 has the given sign
abbrev pub sum_answer : Bool → (ℤ → ℤ) → Mode → List Part → ℕ → Published
sum_answer negative u m parts room =
    cond (is_zero (exact_sum parts))
    (plain (zero_of_sign negative) (pos 0) (depth u m parts) room)
    (rounded_answer u (rounded u m (exact_sum parts)) (depth u m parts) room)

-- the answer where only finite terms count; the sign of an exact 0 follows from the kinds that count
abbrev pub finite_answer : (ℕ → Mark) → List Term → (ℤ → ℤ) → Mode → ℕ → Published
finite_answer marks ts u m room = sum_answer (zero_negative (is_downward m) (has (counted_kinds marks ts))) u m (parts_of marks ts) room

-- the answer by the class of the sum
abbrev pub answer_of_class : SumClass → (ℕ → Mark) → List Term → (ℤ → ℤ) → Mode → ℕ → Published
answer_of_class NanSum marks ts u m room = plain NotANumber (pos 0) 0 room
answer_of_class (Infinite negative) marks ts u m room = plain (infinity negative) (pos 0) 0 room
answer_of_class Number marks ts u m room = finite_answer marks ts u m room

-- the answer that the marks of the places, a list of terms, the spacing of a grid and a mode fix, in so many lent limbs
unfoldable pub answer : (ℕ → Mark) → List Term → (ℤ → ℤ) → Mode → ℕ → Published
answer marks ts u m room = answer_of_class (class_of_sum marks ts) marks ts u m room
