pub mod Parses
pub mod Preference
pub mod Seeks
pub mod Laws
