pub mod Root
pub mod Terms
pub mod Inner
