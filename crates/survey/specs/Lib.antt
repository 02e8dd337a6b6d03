pub mod Survey
pub mod Terms
pub mod Inner
