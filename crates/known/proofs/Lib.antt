pub mod InnerTheorems
pub mod Chain
pub mod ChainLaws
pub mod Seek
pub mod Laws
pub mod WorkspaceLaws
pub mod Walked
pub mod Emptied
pub mod Added
pub mod Sought
mod OneAnswer
