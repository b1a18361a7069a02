-- What the code's list of counted terms stands for.
use Rattle.std.specs.Prelude.{List}
use Rattle.batch.specs.Term.{Term}
use Rattle.column.specs.declared.counted.CountedTerms.{CountedTerms}
use Rattle.column.specs.Parts.{Part}
use Rattle.column.specs.Listed.{parts_listed}

-- the parts that the listed terms stand for among the terms of a batch
abbrev pub listed_parts : List Term → CountedTerms → List Part
listed_parts ts cs = parts_listed ts cs.terms.items
