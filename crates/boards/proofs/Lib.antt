pub mod Below
pub mod Storing
pub mod Stretching
pub mod Fencing
pub mod Paging
