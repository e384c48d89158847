pub mod Table
pub mod Files
