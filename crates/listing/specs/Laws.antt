-- Laws: propositions between definitions and code, and their proofs. Nothing here has to be believed.
pub mod Answers
pub mod Examples
pub mod Inside
pub mod Cut
pub mod Entry
pub mod Kinds
pub mod Lines
pub mod Printed
