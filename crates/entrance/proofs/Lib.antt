pub mod Putting
pub mod Joining
pub mod Reading
pub mod Going
