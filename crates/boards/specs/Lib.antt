pub mod Below
pub mod Places
pub mod Fences
pub mod Pages
