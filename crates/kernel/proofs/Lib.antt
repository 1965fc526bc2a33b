pub mod Alerting
pub mod Channelling
pub mod Going
pub mod Grounding
pub mod Keeping
pub mod Running
pub mod Sending
pub mod Turning
