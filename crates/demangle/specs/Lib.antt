pub mod Symbols
pub mod Printed
pub mod Laws
