pub mod Theorems
pub mod Ranges
pub mod Laws
pub mod Fields
pub mod Answers
pub mod Points
pub mod OneAnswer
