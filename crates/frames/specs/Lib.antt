pub mod Requests
pub mod Framing
pub mod Answers
pub mod Streams
