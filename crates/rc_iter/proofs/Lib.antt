pub mod Asked
pub mod Going
pub mod Halved
pub mod Lists
pub mod Meeting
mod Examples
