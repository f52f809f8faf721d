-- The addresses of Unix sockets.
pub mod Addresses
