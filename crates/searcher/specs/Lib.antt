pub mod Answers
pub mod Flags
pub mod Last
pub mod Lives
pub mod Places
pub mod Ranges
pub mod Searching
pub mod Windows
