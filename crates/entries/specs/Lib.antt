pub mod Outcome
pub mod laws
