pub mod Chunks
pub mod Parted
