pub mod Heads
pub mod Fronts
pub mod Frames
pub mod Parts
pub mod Composed
pub mod Decomposed
