pub mod Diagnoses
pub mod Ends
pub mod Events
pub mod Records
pub mod Refusals
pub mod Texts
