pub mod Parts
pub mod Units
pub mod Stands
pub mod Spelled
pub mod Machines
pub mod Ends
pub mod Fates
