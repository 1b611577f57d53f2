pub mod Encodings
pub mod Laws
