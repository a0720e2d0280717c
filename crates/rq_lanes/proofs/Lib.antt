mod ChMaj
pub mod Columns
pub mod Blocks
pub mod Holding
