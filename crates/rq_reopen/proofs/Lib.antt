pub mod Found
pub mod Behind
pub mod Opened
pub mod Commits
pub mod Files
pub mod Headed
