pub mod Anew
pub mod Found
pub mod Joined
pub mod Lived
pub mod Opened
pub mod Visited
