pub mod Settled
pub mod Reads
pub mod Laws
pub mod Edits
pub mod Live
pub mod Fixed
pub mod Partial
pub mod Alike
