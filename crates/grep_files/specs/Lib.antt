pub mod Globs
pub mod Marks
pub mod Walks
pub mod Entered
