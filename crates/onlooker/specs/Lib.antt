-- How two files are looked at while somebody else may be writing them.
pub mod Looking
