-- Sheets on which the first places are in, and no others.
use Rattle.std.specs.Prelude.{◌≡◌, ℕ, cond, nat_lt}
use Rattle.sheet.specs.declared.mark.Mark.{Mark}
use Rattle.sheet.specs.declared.mark.Mark.TheVariants.{Out, In}
use Rattle.sheet.specs.declared.sheet.OpenSheet.{OpenSheet}
use Rattle.sheet.specs.Model.{History, model, mark_after}
use Rattle.sheet.specs.Reached.{Reached}

-- the mark of a place where the first n are in
abbrev pub first_in : ℕ → ℕ → Mark
first_in n p = cond (nat_lt p n) In Out

-- some history leads to the open sheet, after which the first n places are in and h markings can be undone
abbrev pub InFirst : ℕ → ℕ → OpenSheet → Type 0
InFirst n h s = (cs : History) × Reached cs s × ((p : ℕ) → mark_after cs p ≡ first_in n p) × ((model cs).h ≡ h)
