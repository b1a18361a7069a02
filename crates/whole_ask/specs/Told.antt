-- What the code's faults and answers stand for.
use Rattle.std.specs.Prelude.{ℕ, List, Ok, Err, Result}
use Rattle.batch.specs.Faults.{fault_number, fault_place}
use Rattle.grid.specs.Faults.{fault_number as grid_fault_number}
use Rattle.sheet.specs.Numbers.{Refusal, refused_by, fault_refusal as sheet_refusal}
use Rattle.answers.specs.Asked.{Reply, refused, answered}
use Rattle.ask.specs.Told.{published, fault_refusal as ask_refusal}
use Rattle.ask.specs.declared.answer.Answer.{Answer}
use Rattle.whole_ask.specs.declared.fault.WholeFault.{WholeFault}
use Rattle.whole_ask.specs.declared.fault.WholeFault.TheVariants.{Batch, Grid, Sheet, Ask}

-- the refusal that a fault is: its number, and the place that it blames
abbrev pub fault_refusal : WholeFault → Refusal
fault_refusal (Batch f) = record { number = fault_number f; place = fault_place f }
fault_refusal (Grid f) = refused_by (grid_fault_number f)
fault_refusal (Sheet f) = sheet_refusal f
fault_refusal (Ask f) = ask_refusal f

-- what the result tells, with the limbs that are left
abbrev pub told_whole : Result Answer WholeFault → List ℕ → Reply
told_whole (Ok a) ls = answered (published a ls)
told_whole (Err f) ls = refused (fault_refusal f)
