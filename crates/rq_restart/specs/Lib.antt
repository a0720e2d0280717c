pub mod Restarts
pub mod RedoneFronts
pub mod Tails
pub mod Upgrades
pub mod Audits
pub mod Taking
