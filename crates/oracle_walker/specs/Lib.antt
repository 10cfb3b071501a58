pub mod Frames
pub mod Found
