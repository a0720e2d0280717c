pub mod Beside
pub mod Predecessors
pub mod Standard
pub mod Targets
pub mod Leftovers
pub mod Successions
