pub mod Distance
pub mod Steps
pub mod Nearest
pub mod Inner
pub mod Terms
