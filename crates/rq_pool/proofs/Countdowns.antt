pub mod Words
pub mod Views
pub mod Steps
pub mod Joins
pub mod Gathers
pub mod Endings
