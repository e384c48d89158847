pub mod Answers
pub mod Turns
pub mod Whole
pub mod Joined
pub mod Exists
