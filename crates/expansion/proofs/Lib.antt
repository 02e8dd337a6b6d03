pub mod InnerTheorems
pub mod BytesLaws
pub mod BytesKept
pub mod BytesLoops
pub mod RunsAdd
pub mod StateLaws
pub mod RelaxLaws
pub mod AroundLaws
pub mod EnterLaws
pub mod AdvanceLaws
pub mod RunLaws
pub mod Simulates
pub mod Points
mod OneAnswer
pub mod Left
