pub mod Metering
pub mod Laid
pub mod Steps
pub mod Histories
pub mod Outcomes
pub mod Leaving
pub mod Simulations
