pub mod Checks
pub mod Going
pub mod Sends
