pub mod Term
pub mod TermKinds
pub mod Lookup
pub mod Faults
