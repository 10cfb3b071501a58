pub mod WayLemmas
pub mod ResultLemmas
pub mod AnswerLemmas
pub mod PlaceLemmas
pub mod WeightLemmas
pub mod SideLemmas
pub mod WordLemmas
pub mod PartLemmas
pub mod WholeLemmas
pub mod MatchLemmas
pub mod PieceLemmas
pub mod GroupLemmas
mod Examples
mod LookExamples
pub mod EntryLemmas
pub mod GreatestLemmas
pub mod LongestLemmas
pub mod ReachLemmas
pub mod KindLemmas
mod KindExamples
mod LongestExamples
mod HeadsExamples
pub mod PropertyLemmas
pub mod HeadsLemmas
pub mod ClosingLemmas
pub mod ColumnLemmas
pub mod OwnLemmas
