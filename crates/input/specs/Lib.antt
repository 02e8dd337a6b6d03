pub mod Input
pub mod Whole
