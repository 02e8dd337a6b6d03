pub mod Records
pub mod Flags
pub mod Terms
pub mod Inner
