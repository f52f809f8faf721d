pub mod Standing
pub mod Whys
