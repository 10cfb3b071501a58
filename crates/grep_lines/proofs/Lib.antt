mod LineLemmas
mod SkipLemmas
mod PageLemmas
mod BlockLemmas
mod PartLemmas
mod ContextLemmas
mod AdvanceLemmas
mod PassLemmas
pub mod PieceLemmas
mod ReadLemmas
mod StandsLemmas
mod TouchedLemmas
mod StretchLemmas
