pub mod Encoding
pub mod Session
pub mod Examples
