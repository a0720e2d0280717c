pub mod Ahead
pub mod Digits
pub mod Indexed
pub mod Queues
pub mod Streams
