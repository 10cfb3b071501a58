pub mod Symbols
pub mod Readers
