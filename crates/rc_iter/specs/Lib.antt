pub mod Finders
pub mod Searchers
pub mod Halves
