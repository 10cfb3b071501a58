pub mod TakeLemmas
pub mod TreeLemmas
pub mod ScalarLemmas
pub mod AppendLemmas
pub mod BlockLemmas
pub mod LayoutLemmas
pub mod SameLemmas
pub mod AnswerLemmas
pub mod SizeLemmas
pub mod GreatestLemmas
pub mod SequenceLemmas
pub mod PlaceLemmas
pub mod AddLemmas
pub mod SpanLemmas
mod Examples
