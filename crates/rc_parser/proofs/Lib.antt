pub mod PieceLemmas
pub mod TreeLemmas
pub mod ReadLemmas
pub mod SpineLemmas
pub mod FitLemmas
pub mod StandLemmas
pub mod PlainLemmas
pub mod DepthLemmas
pub mod NameLemmas
mod Examples
