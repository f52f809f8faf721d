-- What a call of one file does to it.
pub mod OneFile
-- What a call of the disk asks of its two files.
pub mod Filed
-- Want of space.
pub mod Space
-- What an opening makes of a file.
pub mod Prepared
-- What becomes of two files by openings.
pub mod Becoming
-- What an opening asks of a directory.
pub mod Opening
-- What was answered, without the error of the system.
pub mod WithoutCause
-- The names of the files in their directory.
pub mod Named
-- How a refusal of the system is told.
pub mod Refused
-- Machinery, with nothing to believe in it: the proof of the two laws of a disk for the disk over two files.
pub mod Lawful
