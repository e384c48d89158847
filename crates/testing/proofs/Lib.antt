pub mod Walking
pub mod Cases
