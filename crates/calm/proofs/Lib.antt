pub mod Calm
pub mod Tests
