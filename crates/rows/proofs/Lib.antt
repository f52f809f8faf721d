pub mod Searches
pub mod Numbers
pub mod Lookups
pub mod Pieces
pub mod Changes
pub mod Cuts
pub mod Gaps
pub mod Froms
