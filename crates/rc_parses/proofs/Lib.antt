pub mod GoLemmas
pub mod AheadLemmas
pub mod ParseLemmas
pub mod MeansLemmas
pub mod LeastLemmas
pub mod MarkLemmas
pub mod OrderLemmas
pub mod RootLemmas
pub mod LawLemmas
pub mod FactorLemmas
pub mod SameLemmas
mod Examples
