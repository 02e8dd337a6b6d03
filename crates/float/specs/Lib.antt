pub mod Round
pub mod TotalOrder
pub mod Inner
