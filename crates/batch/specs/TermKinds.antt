-- The kinds of terms: their numbers, and the kind of each term.
use Rattle.std.specs.Prelude.{ℕ, Bool, true, false, cond, List, [], ◌∷◌, ℤ, slice_index_or}
use Rattle.batch.specs.Term.{Term, not_a_number, infinite, signed_zero, regular}
use Rattle.batch.specs.declared.kind.Kind.{Kind}
use Rattle.batch.specs.declared.kind.Kind.TheVariants.{NotANumber, PositiveInfinity, NegativeInfinity, PositiveZero, NegativeZero, Positive, Negative, Absent}

-- the number of a kind
abbrev pub kind_number : Kind → ℕ
kind_number NotANumber = 0
kind_number PositiveInfinity = 1
kind_number NegativeInfinity = 2
kind_number PositiveZero = 3
kind_number NegativeZero = 4
kind_number Positive = 5
kind_number Negative = 6
kind_number Absent = 7

-- the kinds of terms in the order of their numbers
abbrev pub kinds : List Kind
kinds = NotANumber ∷ PositiveInfinity ∷ NegativeInfinity ∷ PositiveZero ∷ NegativeZero ∷ Positive ∷ Negative ∷ []

-- the kind of a number, and Absent for 7 and above
abbrev pub kind_numbered : ℕ → Kind
kind_numbered n = slice_index_or kinds n Absent

-- the infinity of a sign
abbrev pub infinity : Bool → Kind
infinity negative = cond negative NegativeInfinity PositiveInfinity

-- the zero of a sign
abbrev pub zero_of_sign : Bool → Kind
zero_of_sign negative = cond negative NegativeZero PositiveZero

-- the regular kind of a sign
abbrev pub number_of_sign : Bool → Kind
number_of_sign negative = cond negative Negative Positive

-- the kind with the other sign
abbrev pub turned_kind : Kind → Kind
turned_kind NotANumber = NotANumber
turned_kind PositiveInfinity = NegativeInfinity
turned_kind NegativeInfinity = PositiveInfinity
turned_kind PositiveZero = NegativeZero
turned_kind NegativeZero = PositiveZero
turned_kind Positive = Negative
turned_kind Negative = Positive
turned_kind Absent = Absent

-- the kinds of the regular terms
abbrev pub kind_is_regular : Kind → Bool
kind_is_regular NotANumber = false
kind_is_regular PositiveInfinity = false
kind_is_regular NegativeInfinity = false
kind_is_regular PositiveZero = false
kind_is_regular NegativeZero = false
kind_is_regular Positive = true
kind_is_regular Negative = true
kind_is_regular Absent = false

-- the kinds of the terms that are numbers: the zeros and the regular ones
abbrev pub kind_is_finite : Kind → Bool
kind_is_finite NotANumber = false
kind_is_finite PositiveInfinity = false
kind_is_finite NegativeInfinity = false
kind_is_finite PositiveZero = true
kind_is_finite NegativeZero = true
kind_is_finite Positive = true
kind_is_finite Negative = true
kind_is_finite Absent = false

-- the kind of a term
abbrev pub kind_of : Term → Kind
kind_of not_a_number = NotANumber
kind_of (infinite s) = infinity s
kind_of (signed_zero s) = zero_of_sign s
kind_of (regular s m q) = number_of_sign s

-- the term of a kind, m * 2 ^ q where it is regular
abbrev pub term_of_kind : Kind → ℕ → ℤ → Term
term_of_kind NotANumber m q = not_a_number
term_of_kind PositiveInfinity m q = infinite false
term_of_kind NegativeInfinity m q = infinite true
term_of_kind PositiveZero m q = signed_zero false
term_of_kind NegativeZero m q = signed_zero true
term_of_kind Positive m q = regular false m q
term_of_kind Negative m q = regular true m q
term_of_kind Absent m q = not_a_number
