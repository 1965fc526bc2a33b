pub mod Waking
pub mod Running
