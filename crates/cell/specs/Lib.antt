pub mod Cell
pub mod Bytes
pub mod Lists
pub mod Terms
pub mod Inner
