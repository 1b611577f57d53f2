-- Laws: propositions between definitions and code, and their proofs. Nothing here has to be believed.
pub mod Holds
pub mod Demanglers
pub mod Tags
pub mod Unnamed
pub mod Decimals
pub mod Adds
pub mod Halves
pub mod Leaves
pub mod Literals
pub mod References
pub mod Source
pub mod Wraps
