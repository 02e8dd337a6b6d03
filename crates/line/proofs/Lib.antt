pub mod Laws
mod OneAnswer
