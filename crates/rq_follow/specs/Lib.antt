pub mod Passes
pub mod Followers
