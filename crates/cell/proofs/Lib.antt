pub mod Theorems
pub mod Laws
pub mod Ancestors
pub mod Bits
pub mod Stored
pub mod BytesLaws
pub mod ListLaws
mod Filled
pub mod OneAnswer
pub mod Points
pub mod Differences
pub mod Split
pub mod Ordered
pub mod Spread
