-- The laws of an answer, in the words of whoever reads it: how far it lies from the exact sum and on which side, what two answers enclose, and what its depth is.
use Rattle.std.specs.Prelude.{◌≡◌, ℕ, ◌*◌, ◌≤◌, ◌⊎◌, List, [], length, ℤ, pos, ◌-ℤ◌, Some, ◌==◌}
use Rattle.exact.specs.Integers.{signed}
use Rattle.exact.specs.Dyadic.{Dyadic, dyadic, ◌≤ᴰ◌, ◌<ᴰ◌, ◌≈ᴰ◌, distance, exponent}
use Rattle.exact.specs.Limbs.{limbs_value}
use Rattle.grid.specs.Spacing.{Lawful}
use Rattle.grid.specs.Rounding.{Mode, nearest, mode_numbered, OnGrid}
use Rattle.grid.specs.Neighbours.{Wanted}
use Rattle.grid.specs.Claims.{Toward, Enclosed}
use Rattle.limbs.specs.Bits.{limbs_for}
use Rattle.batch.specs.Term.{Batchable}
use Rattle.sheet.specs.declared.mark.Mark.{Mark}
use Rattle.column.specs.Parts.{Part, exact_sum}
use Rattle.column.specs.PartsOf.{parts_of}
use Rattle.column.specs.Columns.{columns}
use Rattle.column.specs.Depth.{AlikeAt}
use Rattle.survey.specs.Kinds.{class_of_sum}
use Rattle.survey.specs.declared.class.SumClass.TheVariants.{Number}
use Rattle.answers.specs.Published.{Published}
use Rattle.answers.specs.Asked.{Question, answered, asked}

-- the number that an answer is: its limbs as a fraction, times 2 ^ exponent, with its sign; 0 if it is not regular
abbrev pub answer_value : Published → Dyadic
answer_value a = dyadic (signed (a.kind == 6) (limbs_value a.limbs)) (a.exponent -ℤ pos (32 * limbs_for a.precision))

-- the exact sum that a question asks for under the marks
abbrev pub sum_asked : (ℕ → Mark) → Question → Dyadic
sum_asked marks q = exact_sum (parts_of marks q.terms)

-- no counted term is infinite or not a number
abbrev pub OnlyFinite : (ℕ → Mark) → Question → Type 0
OnlyFinite marks q = class_of_sum marks q.terms ≡ Number

-- one spacing: 2 ^ u at the exponent of the sum
abbrev pub one_spacing : (ℤ → ℤ) → Dyadic → Dyadic
one_spacing u x = dyadic (pos 1) (u (exponent x))

abbrev pub half_spacing : (ℤ → ℤ) → Dyadic → Dyadic
half_spacing u x = dyadic (pos 1) (u (exponent x) -ℤ pos 1)

-- Distance: v is the grid number that the mode m asks for at the sum x. It is the sum or lies less than one spacing from it, at nearest within half a spacing; no grid
-- number lies strictly between the two; and d is the sign of v - x.
pub record Near (u : ℤ → ℤ) (m : Mode) (x v : Dyadic) (d : ℤ) : Type 0 where
  pub on_grid : OnGrid u v
  pub wanted : Wanted u m x v
  pub within : (v ≈ᴰ x) ⊎ (distance v x <ᴰ one_spacing u x)
  pub half : m ≡ nearest → (v ≈ᴰ x) ⊎ (distance v x ≤ᴰ half_spacing u x)
  pub none_above : (g : Dyadic) → OnGrid u g → v <ᴰ g → ¬ (g <ᴰ x)
  pub none_below : (g : Dyadic) → OnGrid u g → x <ᴰ g → ¬ (g <ᴰ v)
  pub direction : Toward d v x

-- Depth: d is the least number of top columns after which the two ends round alike, and at most the number of occupied columns; 0 without a regular term that counts
pub record Deep (u : ℤ → ℤ) (m : Mode) (parts : List Part) (d : ℕ) : Type 0 where
  pub alike : ¬ (parts ≡ []) → AlikeAt u m parts (columns parts) d
  pub least : (j : ℕ) → AlikeAt u m parts (columns parts) j → d ≤ j
  pub occupied : d ≤ length (columns parts)
  pub none : parts ≡ [] → d ≡ 0

-- what holds of the answer to a question where only finite terms count
pub record RightAnswer (marks : ℕ → Mark) (q : Question) (m : Mode) (a : Published) : Type 0 where
  pub near : Near q.spacing m (sum_asked marks q) (answer_value a) a.direction
  pub deep : Deep q.spacing m (parts_of marks q.terms) a.depth

abbrev pub AnswerLaw : (ℕ → Mark) → Question → Published → Type 0
AnswerLaw marks q a = OnlyFinite marks q → (m : Mode) → mode_numbered q.mode ≡ Some m → RightAnswer marks q m a

-- two questions about one batch and grid, the first downward and the second upward
pub record Twins (p q : Question) : Type 0 where
  pub terms : p.terms ≡ q.terms
  pub spacing : (e : ℤ) → p.spacing e ≡ q.spacing e
  pub width : p.width ≡ q.width
  pub down : p.mode ≡ 1
  pub up : q.mode ≡ 2

-- every place has the same mark
abbrev pub SameMarks : (ℕ → Mark) → (ℕ → Mark) → Type 0
SameMarks marks other = (place : ℕ) → marks place ≡ other place

-- Enclosure: the answers down and up are equal in value exactly if the exact sum is a grid number, and otherwise are its lower and its upper neighbour
abbrev pub Enclosing : (ℕ → Mark) → Question → Published → Published → Type 0
Enclosing marks q down up = OnlyFinite marks q → Enclosed q.spacing (sum_asked marks q) (answer_value down) (answer_value up)

-- ---- what is proved of every question whose terms and grid keep their laws
pub record Proper (q : Question) : Type 0 where
  pub batchable : Batchable q.terms
  pub lawful : Lawful q.spacing q.width

abbrev pub AnswersRight : Type 0
AnswersRight = (marks : ℕ → Mark) (q : Question) (a : Published) → Proper q → asked marks q ≡ answered a → AnswerLaw marks q a

abbrev pub AnswersEnclose : Type 0
AnswersEnclose = (marks : ℕ → Mark) (p q : Question) (down up : Published) → Proper q → Twins p q → asked marks p ≡ answered down → asked marks q ≡ answered up → Enclosing marks q down up
