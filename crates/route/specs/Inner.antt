pub mod Near
pub mod Walks
pub mod Numbers
