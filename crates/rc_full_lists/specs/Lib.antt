pub mod Items
pub mod Parts
pub mod Read
pub mod Sides
pub mod Openings
pub mod Lists
pub mod Levels
pub mod Laws
