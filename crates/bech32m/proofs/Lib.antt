pub mod Theorems
pub mod Digits
mod Xor
pub mod Created
pub mod Listed
mod Places
mod Sums
pub mod OneAnswer
pub mod Points
pub mod Letters
pub mod CharsetLaws
pub mod Found
