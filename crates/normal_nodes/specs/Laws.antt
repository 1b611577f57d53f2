-- Laws: propositions between definitions and code, and their proofs. Nothing here has to be believed.
pub mod Examples
pub mod Nodes
pub mod Numbers
pub mod Related
pub mod Numbered
