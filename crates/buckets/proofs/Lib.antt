pub mod Numbers
pub mod Placed
pub mod Values
