-- What the proofs of several functions use.
pub mod Loops
pub mod Stacks
