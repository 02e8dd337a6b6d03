pub mod Heap
pub mod Entries
pub mod Sorted
pub mod Steps
pub mod Sift
