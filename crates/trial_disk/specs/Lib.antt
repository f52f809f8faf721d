-- `SimDisk`: what its record of calls says, which outcomes a crash chooses, and which calls fail. Its contract
-- is the model's; these words say besides what exactly it does.
pub mod Recorded
pub mod Choices
pub mod DoneCalls
pub mod Metered
pub mod Simulated
-- Machinery, with nothing to believe in it: the proof of the two laws of a disk for the disk in memory, and the
-- invariant of a loop.
pub mod Lawful
pub mod Following
