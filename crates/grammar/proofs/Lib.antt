-- What the proofs of several functions use.
pub mod Texts
pub mod Digits
pub mod Lookups
pub mod Laws
