pub mod Chain
pub mod Known
pub mod Found
pub mod Seek
pub mod Workspace
