pub mod Blocks
pub mod Halving
pub mod Joined
pub mod Keys
pub mod Places
pub mod Sorted
pub mod Unions
