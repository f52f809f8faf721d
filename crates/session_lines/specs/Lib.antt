pub mod Lines
pub mod Objects
pub mod Laws
