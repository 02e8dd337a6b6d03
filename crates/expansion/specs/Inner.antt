pub mod Bytes
pub mod Ready
pub mod State
