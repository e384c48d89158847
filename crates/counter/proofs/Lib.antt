pub mod Successor
pub mod Room
