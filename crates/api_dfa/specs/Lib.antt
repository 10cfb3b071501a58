pub mod Views
pub mod Tables
pub mod Aims
pub mod Makes
pub mod Refusals
pub mod Faults
pub mod Left
