pub mod Template
pub mod Marks
pub mod Spans
pub mod Told
pub mod Replaced
pub mod Words
pub mod Laws
