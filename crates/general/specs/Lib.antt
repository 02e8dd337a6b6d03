pub mod Each
pub mod Refuse
pub mod Changed
pub mod OneAnswer
