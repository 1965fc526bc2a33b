pub mod Finding
pub mod Gapping
pub mod Marking
pub mod Masking
pub mod Turning
mod Rows
