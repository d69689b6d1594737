pub mod Paired
pub mod Replaced
pub mod Adding
pub mod Answers
