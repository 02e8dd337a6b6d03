pub mod Search
pub mod Plan
pub mod SearchOutcome
pub mod Reached
pub mod Costs
pub mod Terms
pub mod Inner
