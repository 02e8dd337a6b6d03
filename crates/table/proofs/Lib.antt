pub mod Theorems
pub mod Laws
pub mod Map
pub mod Bytes
pub mod ChangeLaws
pub mod Refills
pub mod FlagsLaws
mod Halves
pub mod Moved
pub mod Holding
pub mod Points
pub mod OneAnswer
