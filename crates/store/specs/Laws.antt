-- Laws: propositions between definitions and code, and their proofs. Nothing here has to be believed.
pub mod Fronts
pub mod Lists
pub mod Tails
pub mod Entries
pub mod Slots
