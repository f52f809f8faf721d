pub mod Lines
pub mod Pieces
pub mod Reports
pub mod Laws
