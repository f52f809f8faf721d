pub mod Causes
