pub mod Script
pub mod Decimals
pub mod Reading
pub mod Made
pub mod Fronts
pub mod Making
