pub mod Posix
pub mod Properties
