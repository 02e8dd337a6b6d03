pub mod Counted
pub mod Searches
