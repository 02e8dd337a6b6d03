pub mod Label
pub mod Terms
