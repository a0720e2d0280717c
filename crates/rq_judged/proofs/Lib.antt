pub mod Fronts
pub mod Starts
pub mod FrontEnds
pub mod Readings
pub mod Passes
pub mod Windows
pub mod Pieces
pub mod Checkpoints
