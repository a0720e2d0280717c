pub mod Runs
pub mod Behind
pub mod Mending
pub mod MendedFiles
pub mod Scans
