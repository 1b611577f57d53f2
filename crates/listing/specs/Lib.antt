pub mod Cut
pub mod Entry
pub mod Kinds
pub mod Lines
pub mod Lister
pub mod Listing
pub mod Printed
pub mod Laws
