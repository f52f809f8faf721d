pub mod Sums
pub mod Opened
pub mod Replying
pub mod Letting
