pub mod Names
pub mod Grammar
pub mod Text
pub mod Words
pub mod Reading
