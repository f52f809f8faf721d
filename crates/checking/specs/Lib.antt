pub mod Spelling
pub mod CheckLines
