pub mod InnerTheorems
pub mod Rows
pub mod RowsLaws
pub mod Looked
pub mod Written
pub mod Appended
mod OneAnswer
