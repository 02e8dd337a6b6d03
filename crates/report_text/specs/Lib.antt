pub mod Summary
pub mod Inner
