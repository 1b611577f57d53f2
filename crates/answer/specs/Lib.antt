pub mod Told
pub mod Lent
pub mod Laws
