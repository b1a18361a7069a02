-- The lowest marked place from a number on.
use Rattle.std.specs.Prelude.{ℕ, zero, suc, ◌+◌, ◌-◌, Bool, true, false, cond, Some, None, Option}
use Rattle.sheet.specs.declared.mark.Mark.{Mark}
use Rattle.sheet.specs.declared.mark.Mark.TheVariants.{Out, In, Turned}

-- does the term of a place with this mark count?
abbrev pub is_marked : Mark → Bool
is_marked Out = false
is_marked In = true
is_marked Turned = true

-- the first marked of the n places from i on
abbrev pub first_marked : (ℕ → Mark) → ℕ → ℕ → Option ℕ
first_marked marks i zero = None
first_marked marks i (suc n) = cond (is_marked (marks i)) (Some i) (first_marked marks (i + 1) n)

-- the lowest marked place of a sheet that is not below a number
abbrev pub lowest_marked : (ℕ → Mark) → ℕ → Option ℕ
lowest_marked marks from = first_marked marks from (1024 - from)
