pub mod Events
pub mod Appending
pub mod Hex
pub mod Boards
