pub mod Words
pub mod Lines
pub mod Printing
pub mod Areas
pub mod Boards
pub mod Output
