pub mod Intervals
pub mod Joining
pub mod Laws
pub mod Members
pub mod Order
