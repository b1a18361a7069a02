-- What parts the items of a list.
use Rattle.std.specs.Prelude.{ℕ, zero, suc, List, [], ◌∷◌}

-- what stands before item i: a space, but not before the first
abbrev pub separator : ℕ → List ℕ
separator zero = []
separator (suc i) = 32 ∷ []
