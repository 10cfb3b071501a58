pub mod Counts
pub mod Edited
pub mod Shown
pub mod Turned
