pub mod Workspace
pub mod Inner
