pub mod Channels
pub mod World
pub mod Events
pub mod Decisions
pub mod Promises
pub mod Targets
