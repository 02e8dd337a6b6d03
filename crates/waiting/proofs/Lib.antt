pub mod InnerTheorems
pub mod Heap
pub mod Steps
pub mod Laws
pub mod Sift
mod Cases
mod Decides
mod Stored
mod Least
mod Holes
mod Moves
mod Counted
mod Answers
pub mod Points
pub mod Sifted
mod OneAnswer
