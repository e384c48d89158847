-- Laws that the proofs here cite, and that callers of these functions may.
pub mod Laws
pub mod Ranges
