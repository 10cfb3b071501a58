pub mod Escapes
pub mod Escaped
