pub mod Halves
pub mod Views
pub mod Makes
pub mod Refusals
pub mod Caches
pub mod Faults
pub mod Finding
pub mod Left
