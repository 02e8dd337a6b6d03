pub mod Theorems
mod Raising
mod Passing
mod Ranking
mod RunByRun
mod Storing
mod OneAnswer
pub mod InOrder
