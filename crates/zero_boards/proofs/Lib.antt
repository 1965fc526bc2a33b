pub mod Making
pub mod Zeros
pub mod Fencing
pub mod Paging
