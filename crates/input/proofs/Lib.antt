pub mod Theorems
pub mod Points
pub mod Room
