-- Why a batch is refused: the faults by number and place.
use Rattle.std.specs.Prelude.{ℕ}
use Rattle.batch.specs.declared.fault.RecordFault.{RecordFault}
use Rattle.batch.specs.declared.fault.RecordFault.TheVariants.{UnknownKind, PrecisionOutOfRange, ExponentOutOfRange, LimbsPastPool, TopBitClear, LowBitSet}
use Rattle.batch.specs.declared.fault.BatchFault.{BatchFault}
use Rattle.batch.specs.declared.fault.BatchFault.TheVariants.{TooManyTerms, AtRecord}

-- the number of a fault of one record
abbrev pub record_fault_number : RecordFault → ℕ
record_fault_number UnknownKind = 2
record_fault_number PrecisionOutOfRange = 3
record_fault_number ExponentOutOfRange = 4
record_fault_number LimbsPastPool = 5
record_fault_number TopBitClear = 6
record_fault_number LowBitSet = 7

-- the number of a fault
abbrev pub fault_number : BatchFault → ℕ
fault_number TooManyTerms = 1
fault_number (AtRecord i f) = record_fault_number f

-- its place: the number of the record, and 0 where there are too many terms
abbrev pub fault_place : BatchFault → ℕ
fault_place TooManyTerms = 0
fault_place (AtRecord i f) = i
