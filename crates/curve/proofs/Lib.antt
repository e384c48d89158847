pub mod Curve
pub mod Rows
pub mod Fifty
