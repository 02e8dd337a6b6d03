pub mod InnerTheorems
pub mod Theorems
pub mod BeginLaws
pub mod CallLaws
pub mod EndLaws
pub mod WayLaws
pub mod WholeLaws
mod OneAnswer
pub mod Points
pub mod Limit
pub mod Returned
