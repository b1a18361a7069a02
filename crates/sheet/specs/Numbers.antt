-- The numbers by which callers name marks, and those under which refusals are published.
use Rattle.std.specs.Prelude.{ℕ, cond, List, codes, Some, None, Ok, Err, Option, Result, ◌==◌}
use Rattle.sheet.specs.declared.mark.Mark.{Mark}
use Rattle.sheet.specs.declared.mark.Mark.TheVariants.{Out, In, Turned}
use Rattle.sheet.specs.declared.fault.SheetFault.{SheetFault}
use Rattle.sheet.specs.declared.fault.SheetFault.TheVariants.{NoSuchPlace, NoSuchMark, TrailFull, TrailEmpty}

-- 0 out, 1 in, 2 turned
abbrev pub mark_number : Mark → ℕ
mark_number Out = 0
mark_number In = 1
mark_number Turned = 2

-- the word that is printed for a mark
abbrev pub mark_word : Mark → List ℕ
mark_word Out = codes "out"
mark_word In = codes "in"
mark_word Turned = codes "turned"

-- the mark that a number up to 2 names
abbrev pub mark_numbered : ℕ → Mark
mark_numbered n = cond (n == 0) Out (cond (n == 1) In Turned)

-- A refusal, as it is published: its number, and the place that it blames.
pub record Refusal : Type 0 where
  pub number : ℕ
  pub place : ℕ

-- a refusal that blames no place, which is published as place 0
abbrev pub refused_by : ℕ → Refusal
refused_by n = record { number = n; place = 0 }

abbrev pub fault_number : SheetFault → ℕ
fault_number NoSuchPlace = 11
fault_number NoSuchMark = 12
fault_number TrailFull = 13
fault_number TrailEmpty = 14

abbrev pub fault_refusal : SheetFault → Refusal
fault_refusal f = refused_by (fault_number f)

-- what a call's result tells: nothing where it was done, else its refusal
abbrev pub told : {T : Type 0} → Result T SheetFault → Option Refusal
told (Ok x) = None
told (Err f) = Some (fault_refusal f)
