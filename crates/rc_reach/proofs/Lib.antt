pub mod SideLemmas
pub mod AlikeLemmas
pub mod AgreeLemmas
pub mod KnownLemmas
pub mod LongestLemmas
pub mod GreatestLemmas
pub mod LawLemmas
pub mod LengthLemmas
pub mod BoundLemmas
pub mod SliceLemmas
pub mod EditLemmas
pub mod LiveLemmas
pub mod TakeUpLemmas
pub mod FixedLemmas
pub mod PartialLemmas
mod Tried
mod Examples
