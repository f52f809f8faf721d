pub mod Grown
pub mod Widths
