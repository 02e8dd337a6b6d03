pub mod Rollup
pub mod Inner
pub mod Terms
