-- Laws: propositions between definitions and code, and their proofs. Nothing here has to be believed.
pub mod WellFormed
pub mod Numbers
pub mod Words
pub mod NameReader
pub mod Thunks
pub mod Longer
pub mod Bytes
