pub mod Snap
pub mod Terms
