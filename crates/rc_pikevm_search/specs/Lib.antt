pub mod Choices
pub mod Engine
pub mod Lists
pub mod Moved
pub mod Literals
pub mod Tells
pub mod Walks
