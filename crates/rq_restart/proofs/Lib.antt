pub mod Closings
pub mod Endings
pub mod Upgradings
pub mod Walks
pub mod Taking
pub mod RedoneFronts
pub mod TailEnds
pub mod Audited
