-- The letters of marks and of modes, and the numbers that they stand for.
use Rattle.std.specs.Prelude.{ℕ, List, [], ◌∷◌, length, codes, ◌==◌}
use Rattle.std.specs.List.{position_or_len}

-- the place of a run of one letter among the letters, and how many these are for any other run
abbrev pub number_among : List ℕ → List ℕ → ℕ
number_among letters [] = length letters
number_among letters (b ∷ []) = position_or_len (λ letter. letter == b) letters
number_among letters (b ∷ c ∷ rest) = length letters

-- the number of a mark: o out, i in, t turned; 3, which no mark has, for any other run
abbrev pub mark_of_run : List ℕ → ℕ
mark_of_run run = number_among (codes "oit") run

-- the number of a mode: N nearest, D downward, U upward, Z toward zero, A away from zero; 5, which no mode has, for any other run
abbrev pub mode_of_run : List ℕ → ℕ
mode_of_run run = number_among (codes "NDUZA") run
