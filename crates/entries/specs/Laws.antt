-- Laws: propositions between definitions and code, and their proofs. Nothing here has to be believed.
pub mod Outcome
pub mod Runs
pub mod Demand
pub mod Longer
