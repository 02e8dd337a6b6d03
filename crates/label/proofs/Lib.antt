pub mod Theorems
pub mod OneAnswer
pub mod Points
pub mod Labels
pub mod Bech32m
mod ListLaws
mod Cases
mod Reading
mod Shifts
mod Data
mod Putting
mod Unlike
mod Values
