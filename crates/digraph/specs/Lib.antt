pub mod Paths
pub mod Edges
pub mod Heights
