pub mod Route
pub mod Accepted
pub mod Choice
pub mod Inner
