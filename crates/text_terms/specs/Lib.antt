pub mod Meaning
pub mod TermLists
