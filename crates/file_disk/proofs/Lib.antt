pub mod Going
pub mod Causes
pub mod Becomes
