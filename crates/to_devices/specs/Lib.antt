pub mod Counting
pub mod Replies
pub mod Leaving
pub mod Laws
