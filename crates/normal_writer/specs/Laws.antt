-- Laws: propositions between definitions and code, and their proofs. Nothing here has to be believed.
pub mod FirstBytes
pub mod Loops
pub mod Types
pub mod Parts
pub mod Symbols
