pub mod Settings
pub mod Pieces
pub mod Grammar
pub mod Machine
pub mod Nesting
pub mod View
pub mod Outcome
pub mod Laws
