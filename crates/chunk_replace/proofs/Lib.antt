pub mod Reading
pub mod Replacing
pub mod Groups
pub mod Rewriting
pub mod OneWay
mod Examples
pub mod Whole
