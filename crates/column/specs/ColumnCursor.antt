-- What the counted terms on their way down the columns stand for.
use Rattle.std.specs.Prelude.{◌≡◌, ℕ, List, ℤ}
use Rattle.batch.specs.declared.interface.Batch.{Ghosts}
use Rattle.column.specs.declared.cursor.ColumnCursor.{ColumnCursor}
use Rattle.column.specs.Parts.{Part}
use Rattle.column.specs.Columns.{column_total, columns}
use Rattle.column.specs.Ends.{reaching_below}
use Rattle.column.specs.Listed.{parts_listed}

-- the parts that the listed terms stand for among the terms of their batch
abbrev pub listed_parts : {B : Type 0} {CAP : ℕ} {G : Ghosts B} → ColumnCursor B CAP G → List Part
listed_parts {B} {CAP} {G} cs = parts_listed (G.terms cs.batch.now) cs.terms.items

-- the column at which they stand
abbrev pub standing : {B : Type 0} {CAP : ℕ} {G : Ghosts B} → ColumnCursor B CAP G → ℤ
standing cs = cs.column

-- the parts qs have the columns of the parts ps: occupied are the same, each with the same total, and as many parts reach below each weight
pub record SameColumns (ps qs : List Part) : Type 0 where
  pub occupied : columns qs ≡ columns ps
  pub totals : (k : ℤ) → column_total qs k ≡ column_total ps k
  pub reaching : (w : ℤ) → reaching_below qs w ≡ reaching_below ps w
