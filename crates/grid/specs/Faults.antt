-- Why a grid is refused: the faults by number and place, and which numbers get which.
use Rattle.std.specs.Prelude.{ℕ, cond, ℤ, pos, neg_ℤ, is_some, Some, None, Option, int_lt, nat_lt}
use Rattle.grid.specs.Formats.{format_numbered}
use Rattle.grid.specs.declared.fault.GridFault.{GridFault}
use Rattle.grid.specs.declared.fault.GridFault.TheVariants.{WidthOutOfRange, FloorOutOfRange, NoSuchName}

-- the number of a fault
abbrev pub fault_number : GridFault → ℕ
fault_number WidthOutOfRange = 8
fault_number FloorOutOfRange = 9
fault_number NoSuchName = 10

-- its place: a grid is refused as a whole
abbrev pub fault_place : GridFault → ℕ
fault_place f = 0

-- a width is refused unless it is 1 to 4096
abbrev pub width_refusal : ℕ → Option GridFault
width_refusal p = cond (nat_lt p 1) (Some WidthOutOfRange) (cond (nat_lt 4096 p) (Some WidthOutOfRange) None)

-- a floor is refused unless it is -1,000,000,000 to 1,000,000,000
abbrev pub floor_refusal : ℤ → Option GridFault
floor_refusal f = cond (int_lt f (neg_ℤ (pos 1000000000))) (Some FloorOutOfRange) (cond (int_lt (pos 1000000000) f) (Some FloorOutOfRange) None)

-- the first fault, or none
abbrev pub first_fault : Option GridFault → Option GridFault → Option GridFault
first_fault (Some f) g = Some f
first_fault None g = g

-- a floored grid: first its width, then its floor
abbrev pub floored_refusal : ℕ → ℤ → Option GridFault
floored_refusal p f = first_fault (width_refusal p) (floor_refusal f)

-- a name is refused unless it is the number of a format
abbrev pub name_refusal : ℕ → Option GridFault
name_refusal n = cond (is_some (format_numbered n)) None (Some NoSuchName)
