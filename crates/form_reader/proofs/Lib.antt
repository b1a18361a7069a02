pub mod FrontWords
pub mod StepLaws
pub mod FormSteps
pub mod Unions
pub mod FieldWords
pub mod FormLaws
pub mod Spellings
pub mod Lines
