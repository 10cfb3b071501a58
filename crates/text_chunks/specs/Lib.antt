pub mod Piles
pub mod Edits
