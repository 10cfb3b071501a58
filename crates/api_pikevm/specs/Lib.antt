pub mod Views
pub mod Caches
pub mod Left
