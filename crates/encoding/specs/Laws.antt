-- Laws: propositions between definitions and code, and their proofs. Nothing here has to be believed.
pub mod Answers
pub mod Ends
pub mod Functions
pub mod Named
pub mod Labels
pub mod Specials
pub mod Thunks
pub mod Clones
