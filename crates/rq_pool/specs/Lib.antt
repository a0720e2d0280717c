pub mod Ledger
pub mod Passes
pub mod Rules
pub mod Decks
pub mod Holdings
pub mod Vaults
pub mod Rooms
pub mod Countdowns
