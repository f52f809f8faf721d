-- The parts of a configuration.
pub mod Fields
-- What one file is by itself.
pub mod Reading
-- What two files are together.
pub mod Finding
-- Which file may be moved away.
pub mod Advising
-- Machinery, with nothing to believe in it: how far a search has come.
pub mod Probing
