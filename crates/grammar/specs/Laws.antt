-- Laws: propositions between definitions and code, and their proofs. Nothing here has to be believed.
pub mod Text
pub mod Productions
pub mod Places
pub mod Agree
pub mod Runs
pub mod Fuel
pub mod Finds
pub mod Steps
pub mod NameSteps
pub mod Loops
pub mod Decimals
pub mod Alike
pub mod Thunks
pub mod Longer
pub mod States
pub mod Parsers
