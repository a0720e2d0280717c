pub mod Reading
pub mod Made
pub mod Plans
mod Accounted
