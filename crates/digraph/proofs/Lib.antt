pub mod Walks
pub mod Rows
pub mod Reaching
pub mod LoopLemmas
