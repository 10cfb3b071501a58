pub mod OnePass
pub mod Rows
pub mod Walked
