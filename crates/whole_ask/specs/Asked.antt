-- What the ask of all terms gets.
use Rattle.std.specs.Prelude.{ℕ, List, length, Some, None, Option}
use Rattle.batch.specs.Term.{Term}
use Rattle.batch.specs.Faults.{fault_number, fault_place}
use Rattle.batch.specs.declared.fault.BatchFault.{BatchFault}
use Rattle.grid.specs.Spacing.{free}
use Rattle.grid.specs.Faults.{width_refusal, fault_number as grid_fault_number}
use Rattle.grid.specs.declared.fault.GridFault.{GridFault}
use Rattle.limb_batch.specs.Records.{record_terms}
use Rattle.limb_batch.specs.Opening.{opening_fault}
use Rattle.limb_batch.specs.declared.record.LimbRecord.{LimbRecord}
use Rattle.sheet.specs.Numbers.{refused_by}
use Rattle.answers.specs.Asked.{Reply, refused, question, asked}
use Rattle.whole_sheet.specs.FirstPlaces.{first_in}

-- the refusal of the batch, if it is refused, or else what follows
abbrev pub after_batch : Option BatchFault → Reply → Reply
after_batch (Some f) rest = refused (record { number = fault_number f; place = fault_place f })
after_batch None rest = rest

-- so of the grid
abbrev pub after_grid : Option GridFault → Reply → Reply
after_grid (Some f) rest = refused (refused_by (grid_fault_number f))
after_grid None rest = rest

-- what the ask of all terms gets on the free grid of this width, in the mode of this number, with so many limbs
abbrev pub asked_of_all : List Term → ℕ → ℕ → ℕ → Reply
asked_of_all ts width mode room = asked (first_in (length ts)) (question ts (free width) width mode room)

-- what the records over the pool get: the first refusal, or the answer
unfoldable pub asked_whole : List LimbRecord → List ℕ → ℕ → ℕ → ℕ → Reply
asked_whole rs pool width mode room = after_batch (opening_fault pool rs) (after_grid (width_refusal width) (asked_of_all (record_terms pool rs) width mode room))
