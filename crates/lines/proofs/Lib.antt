pub mod Numbering
pub mod Going
pub mod Written
pub mod Answers
