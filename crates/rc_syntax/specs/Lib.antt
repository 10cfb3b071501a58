pub mod Laws
pub mod Reads
