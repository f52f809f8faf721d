-- The modes of a socket.
pub mod Modes
