pub mod Corpus
pub mod Views
