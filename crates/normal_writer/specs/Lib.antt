pub mod Cycle
pub mod Writes
pub mod Laws
