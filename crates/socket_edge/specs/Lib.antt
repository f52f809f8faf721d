pub mod Exchange
pub mod Joined
pub mod Progress
pub mod Running
pub mod Serving
pub mod Lives
pub mod Turns
