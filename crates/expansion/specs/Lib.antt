pub mod Estimate
pub mod Inner
