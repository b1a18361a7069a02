-- The line of an answer.
use Rattle.std.specs.Prelude.{true, false, take}
use Rattle.limbs.specs.Bits.{limbs_for}
use Rattle.batch.specs.TermKinds.{kind_numbered}
use Rattle.batch.specs.declared.kind.Kind.{Kind}
use Rattle.batch.specs.declared.kind.Kind.TheVariants.{NotANumber, PositiveInfinity, NegativeInfinity, PositiveZero, NegativeZero, Positive, Negative, Absent}
use Rattle.answers.specs.Published.{Published}
use Rattle.forms.specs.Written.{Written, sum, zero_sum, infinite_sum, no_sum}

-- the line of an answer of this kind; no answer is of the kind Absent
abbrev pub line_of_kind : Kind → Published → Written
line_of_kind NotANumber p = no_sum
line_of_kind PositiveInfinity p = infinite_sum false
line_of_kind NegativeInfinity p = infinite_sum true
line_of_kind PositiveZero p = zero_sum false p.direction p.depth
line_of_kind NegativeZero p = zero_sum true p.direction p.depth
line_of_kind Positive p = sum false p.exponent p.precision (take (limbs_for p.precision) p.limbs) p.direction p.depth
line_of_kind Negative p = sum true p.exponent p.precision (take (limbs_for p.precision) p.limbs) p.direction p.depth
line_of_kind Absent p = no_sum

-- the line of an answer: of a regular one the limbs of its precision
abbrev pub answer_line : Published → Written
answer_line p = line_of_kind (kind_numbered p.kind) p
