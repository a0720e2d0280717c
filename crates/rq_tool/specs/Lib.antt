pub mod Streams
pub mod Headline
pub mod Works
pub mod Commands
