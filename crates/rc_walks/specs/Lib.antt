pub mod Walks
pub mod Tries
pub mod Threads
