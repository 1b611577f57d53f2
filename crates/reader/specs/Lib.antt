pub mod Instances
pub mod Cycle
pub mod Separators
pub mod Lists
pub mod Funcs
pub mod Structors
pub mod Laws
