pub mod Ends
pub mod Shown
pub mod Held
pub mod Short
