-- What a reader sees of a sheet's marks.
use Rattle.std.specs.Prelude.{ℕ, slice_index_or}
use Rattle.sheet.specs.declared.mark.Mark.{Mark}
use Rattle.sheet.specs.declared.mark.Mark.TheVariants.{Out}
use Rattle.sheet.specs.declared.marks.Marks.{Marks}

-- the mark that a place shows; a number past the last place shows out
abbrev pub shown : Marks → ℕ → Mark
shown ms p = slice_index_or ms.places p Out
