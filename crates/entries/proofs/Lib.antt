pub mod Again
pub mod Changing
pub mod Needed
pub mod Over
pub mod Pinned
pub mod Runs
pub mod Stilled
pub mod Whole
