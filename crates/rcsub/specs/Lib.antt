pub mod Alike
pub mod Replaced
pub mod Streamed
