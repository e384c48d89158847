pub mod Digits
pub mod Fields
pub mod Forms
pub mod Chains
pub mod Events
pub mod Entries
pub mod Exports
pub mod Logs
