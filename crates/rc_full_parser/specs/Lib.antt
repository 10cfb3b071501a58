pub mod Marks
pub mod Marked
pub mod View
pub mod Pieces
pub mod Grammar
pub mod Machine
pub mod Laws
