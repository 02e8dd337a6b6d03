pub mod Lattice
pub mod Middle
pub mod Terms
