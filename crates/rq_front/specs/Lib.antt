pub mod Chains
pub mod Framers
pub mod Walks
