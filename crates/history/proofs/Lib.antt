pub mod Theorems
pub mod RollupRows
pub mod Steps
pub mod History
pub mod Points
