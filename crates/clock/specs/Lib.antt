pub mod Timely
pub mod Ranges
