pub mod Reason
pub mod Retry
