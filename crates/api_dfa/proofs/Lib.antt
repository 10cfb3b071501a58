pub mod Decided
pub mod Had
pub mod Asked
pub mod Going
pub mod TableLemmas
