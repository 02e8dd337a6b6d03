pub mod Former
pub mod Inner
