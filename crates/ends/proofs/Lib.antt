pub mod RaisedQuotients
pub mod Borders
pub mod NumbersOfEnds
pub mod AnswersOfEnds
