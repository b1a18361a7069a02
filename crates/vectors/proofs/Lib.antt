pub mod WordLists
pub mod CaseSteps
