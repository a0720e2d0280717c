pub mod Appenders
pub mod Growths
pub mod Openings
pub mod Checkpoints
pub mod Closings
pub mod Carries
pub mod LeftBehind
