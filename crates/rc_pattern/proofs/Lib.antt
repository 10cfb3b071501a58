pub mod FoldLemmas
pub mod JoinLemmas
pub mod WellFormedLemmas
pub mod WeightLemmas
pub mod NameLemmas
pub mod LookLemmas
pub mod SetLemmas
pub mod PlainNodeLemmas
pub mod LengthLemmas
pub mod KnownLemmas
pub mod DropLemmas
mod Examples
