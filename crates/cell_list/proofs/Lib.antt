pub mod Theorems
pub mod OneAnswer
pub mod Listing
pub mod Laws
pub mod Writing
pub mod ReadBack
