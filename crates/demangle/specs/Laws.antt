-- Laws: propositions between definitions and code, and their proofs. Nothing here has to be believed.
pub mod Fronts
pub mod Slotless
pub mod Tells
pub mod Told
pub mod Lengths
