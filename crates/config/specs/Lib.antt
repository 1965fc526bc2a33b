pub mod Circles
pub mod Index
pub mod Masks
pub mod Responses
pub mod Slotless
pub mod Turns
