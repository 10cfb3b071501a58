pub mod Streams
pub mod Stepping
pub mod Listing
pub mod Searches
pub mod Searching
pub mod Groups
