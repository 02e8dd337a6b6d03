pub mod Theorems
pub mod Rewritten
pub mod Laws
pub mod Longer
pub mod Room
pub mod OneAnswer
pub mod Points
