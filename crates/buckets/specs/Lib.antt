pub mod ByPort
pub mod Held
pub mod Places
