pub mod Names
pub mod Groups
pub mod Captures
pub mod Lends
pub mod Laws
