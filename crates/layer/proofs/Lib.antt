pub mod Theorems
mod Rewritten
pub mod OneAnswer
pub mod CallAnswers
pub mod Holding
pub mod Points
