-- Which kinds of terms count under the marks of a sheet, and what they make of a sum.
use Rattle.std.specs.Prelude.{ℕ, suc, Bool, true, false, cond, ◌&&◌, ◌||◌, List, [], ◌∷◌, map, ◌==◌}
use Rattle.batch.specs.Term.{Term}
use Rattle.batch.specs.TermKinds.{kind_of, kind_number, turned_kind}
use Rattle.batch.specs.declared.kind.Kind.{Kind}
use Rattle.batch.specs.declared.kind.Kind.TheVariants.{NotANumber, PositiveInfinity, NegativeInfinity, PositiveZero, NegativeZero, Positive, Negative, Absent}
use Rattle.sheet.specs.declared.mark.Mark.{Mark}
use Rattle.sheet.specs.declared.mark.Mark.TheVariants.{Out, In, Turned}
use Rattle.survey.specs.declared.class.SumClass.{SumClass}
use Rattle.survey.specs.declared.class.SumClass.TheVariants.{NotANumber as NanSum, Infinite, Number}

-- the kind that a term counts as under a mark: none where it is out
abbrev pub counted_kind : Mark → Kind → Kind
counted_kind Out k = Absent
counted_kind In k = k
counted_kind Turned k = turned_kind k

-- the kinds that the terms at the places from i on count as
abbrev pub kinds_from : (ℕ → Mark) → ℕ → List Kind → List Kind
kinds_from marks i [] = []
kinds_from marks i (k ∷ ks) = counted_kind (marks i) k ∷ kinds_from marks (suc i) ks

-- the kinds that the terms of a list count as, the first at the place 0
abbrev pub counted_kinds : (ℕ → Mark) → List Term → List Kind
counted_kinds marks ts = kinds_from marks 0 (map kind_of ts)

-- is one of the kinds this one?
abbrev pub has : List Kind → Kind → Bool
has [] k = false
has (j ∷ ks) k = cond (kind_number j == kind_number k) true (has ks k)

-- The rest says what a sum is by which kinds count: a function that tells it of each kind, as `has` of a list of kinds does.

-- a not-a-number, or infinities of both signs, make a sum that is no number; infinities of one sign make that infinity
abbrev pub class_found : (Kind → Bool) → SumClass
class_found counts =
    cond (counts NotANumber || (counts PositiveInfinity && counts NegativeInfinity)) NanSum
    (cond (counts PositiveInfinity || counts NegativeInfinity) (Infinite (counts NegativeInfinity)) Number)

-- does a number other than 0 count?
abbrev pub regular_found : (Kind → Bool) → Bool
regular_found counts = counts Positive || counts Negative

-- is an exact zero sum negative? Zeros of one sign keep their sign; any other zero is positive, or negative where sums are rounded down; with no term at all it is positive
abbrev pub zero_negative : Bool → (Kind → Bool) → Bool
zero_negative downward counts = cond (regular_found counts || (counts PositiveZero && counts NegativeZero)) downward (counts NegativeZero)

-- the class of the sum that a list of terms makes under the marks
abbrev pub class_of_sum : (ℕ → Mark) → List Term → SumClass
class_of_sum marks ts = class_found (has (counted_kinds marks ts))
