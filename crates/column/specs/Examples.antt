-- Worked examples of depths, which the checker computes.
use Rattle.std.specs.Prelude.{◌≡◌, ℕ, zero, suc, true, false, List, [], ◌∷◌, ℤ, pos, neg_ℤ}
use Rattle.std.specs.List.{AllByRecursion}
use Rattle.grid.specs.Spacing.{free}
use Rattle.grid.specs.Rounding.{Mode, nearest, downward}
use Rattle.batch.specs.Term.{regular, not_a_number}
use Rattle.sheet.specs.declared.mark.Mark.{Mark}
use Rattle.sheet.specs.declared.mark.Mark.TheVariants.{Out, In, Turned}
use Rattle.column.specs.Parts.{Part, part}
use Rattle.column.specs.PartsOf.{parts_of}
use Rattle.column.specs.Columns.{columns}
use Rattle.column.specs.Depth.{depth}

-- a sum on a free grid, in a mode, with its occupied columns and its depth
pub record Example : Type 0 where
  pub digits : ℕ
  pub mode : Mode
  pub parts : List Part
  pub occupied : List ℤ
  pub depth : ℕ

-- the same, in a row
abbrev pub example : ℕ → Mode → List Part → List ℤ → ℕ → Example
example n m ps cs d = record { digits = n; mode = m; parts = ps; occupied = cs; depth = d }

-- the first term in, the second turned, the third out
abbrev pub in_turned_out : ℕ → Mark
in_turned_out zero = In
in_turned_out (suc zero) = Turned
in_turned_out (suc (suc i)) = Out

-- 5 + 2 ^ -10; 3 - 2 ^ -2000; 5 * 2 ^ 38 + 2 ^ -5; 1 - 1 + 2 ^ -1000; 1 - 1; nothing; 3 - 2 ^ -2000 from marks and terms
abbrev pub examples : List Example
examples =
    example 3 nearest (part false 5 (pos 0) ∷ part false 1 (neg_ℤ (pos 10)) ∷ []) (pos 0 ∷ neg_ℤ (pos 1) ∷ []) 2
    ∷ example 2 downward (part false 3 (pos 0) ∷ part true 1 (neg_ℤ (pos 2000)) ∷ []) (pos 0 ∷ neg_ℤ (pos 63) ∷ []) 2
    ∷ example 1 downward (part false 5 (pos 38) ∷ part false 1 (neg_ℤ (pos 5)) ∷ []) (pos 1 ∷ neg_ℤ (pos 1) ∷ []) 1
    ∷ example 1 downward (part false 1 (pos 0) ∷ part true 1 (pos 0) ∷ part false 1 (neg_ℤ (pos 1000)) ∷ []) (pos 0 ∷ neg_ℤ (pos 32) ∷ []) 2
    ∷ example 1 downward (part false 1 (pos 0) ∷ part true 1 (pos 0) ∷ []) (pos 0 ∷ []) 1
    ∷ example 1 downward [] [] 0
    ∷ example 2 downward (parts_of in_turned_out (regular false 3 (pos 0) ∷ regular false 1 (neg_ℤ (pos 2000)) ∷ regular true 7 (pos 9) ∷ not_a_number ∷ [])) (pos 0 ∷ neg_ℤ (pos 63) ∷ []) 2
    ∷ []

-- the definitions give the columns and the depth
abbrev pub Holds : Example → Type 0
Holds x = (columns x.parts ≡ x.occupied) × (depth (free x.digits) x.mode x.parts ≡ x.depth)

abbrev pub ExamplesHold : Type 0
ExamplesHold = AllByRecursion Holds examples
