pub mod KnownCell
pub mod Counted
