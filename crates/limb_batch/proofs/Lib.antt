pub mod FirstFaults
pub mod RecordTerms
