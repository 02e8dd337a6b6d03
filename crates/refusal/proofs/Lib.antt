pub mod OneAnswer
pub mod Numbers
