pub mod Laws
pub mod Measured
