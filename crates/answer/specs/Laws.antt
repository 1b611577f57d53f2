-- Laws: propositions between definitions and code, and their proofs. Nothing here has to be believed.
pub mod Told
pub mod Lent
