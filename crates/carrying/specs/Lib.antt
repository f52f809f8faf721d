pub mod Asking
pub mod Turns
pub mod Carried
pub mod Counted
pub mod Runs
pub mod Lives
pub mod Noting
pub mod AtHand
