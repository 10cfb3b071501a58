pub mod Gaps
pub mod Skips
pub mod Names
pub mod Front
pub mod Counts
pub mod Counted
pub mod Flags
