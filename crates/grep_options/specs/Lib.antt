pub mod Escaped
pub mod Nearest
pub mod Words
pub mod Given
pub mod Taken
