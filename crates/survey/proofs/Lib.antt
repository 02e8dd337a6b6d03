pub mod Theorems
pub mod RoundTrips
pub mod FullRoom
pub mod Whole
pub mod Replaced
pub mod OneAnswer
pub mod Points
pub mod Split
