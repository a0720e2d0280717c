pub mod Single
pub mod Together
