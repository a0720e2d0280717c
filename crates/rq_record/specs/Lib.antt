pub mod Faults
pub mod Padding
pub mod LogParts
pub mod Kept
pub mod Views
pub mod Reading
pub mod Writing
