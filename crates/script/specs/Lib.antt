pub mod Format
pub mod Errors
pub mod Lines
pub mod Reading
