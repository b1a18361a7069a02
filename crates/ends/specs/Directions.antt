-- On which side of a number its answer lies.
use Rattle.std.specs.Prelude.{ℕ, Bool, true, false, List, ℤ, pos, neg_ℤ, codes}
use Rattle.ends.specs.declared.direction.Direction.{Direction}
use Rattle.ends.specs.declared.direction.Direction.TheVariants.{Below, Exact, Above}

-- the sign of the answer less the number
abbrev pub direction_sign : Direction → ℤ
direction_sign Below = neg_ℤ (pos 1)
direction_sign Exact = pos 0
direction_sign Above = pos 1

-- how a direction is printed
abbrev pub direction_words : Direction → List ℕ
direction_words Below = codes "below the sum"
direction_words Exact = codes "exact"
direction_words Above = codes "above the sum"

-- by the sign of the number, whether its magnitude is raised, and whether anything was left out
abbrev pub toward : Bool → Bool → Bool → Direction
toward s raise false = Exact
toward false true true = Above
toward false false true = Below
toward true true true = Below
toward true false true = Above
