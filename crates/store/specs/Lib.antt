-- What the contracts of the crate cite, and laws on it that callers use.
pub mod Stack
pub mod Table
pub mod Laws
