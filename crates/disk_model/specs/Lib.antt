-- What a doubter has to read and believe: the model, and what follows from it for every disk.
pub mod Disk
pub mod Laws
