pub mod Explained
pub mod Full
pub mod Reading
pub mod Shown
