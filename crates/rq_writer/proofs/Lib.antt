pub mod Numbers
pub mod Hex
pub mod Parts
pub mod Lines
pub mod Splitting
pub mod Ends
pub mod Steps
mod OneAnswer
