pub mod Causes
pub mod Faults
pub mod Found
pub mod Lives
pub mod Telling
pub mod Visits
pub mod Working
