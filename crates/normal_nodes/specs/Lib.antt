pub mod Nodes
pub mod Laws
