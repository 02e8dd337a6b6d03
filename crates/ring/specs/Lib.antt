pub mod Ring
pub mod Reach
pub mod Terms
pub mod Inner
