-- Laws: propositions between definitions and code, and their proofs. Nothing here has to be believed.
pub mod Buffer
pub mod Examples
pub mod Kept
pub mod Lines
pub mod Turns
