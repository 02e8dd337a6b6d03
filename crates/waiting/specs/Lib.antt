pub mod Width
pub mod Inner
