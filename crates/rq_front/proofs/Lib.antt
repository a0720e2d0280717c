pub mod Framing
pub mod Walks
pub mod InPieces
pub mod Sides
