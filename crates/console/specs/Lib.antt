pub mod Buffer
pub mod Failed
pub mod Lister
pub mod Output
pub mod Turns
pub mod Laws
