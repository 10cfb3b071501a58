pub mod RunLemmas
pub mod TextLemmas
pub mod OrderLemmas
pub mod InnerLemmas
pub mod StepLemmas
pub mod EscapeLemmas
pub mod MemberLemmas
pub mod FlagLemmas
pub mod SoundLemmas
pub mod AgainLemmas
pub mod ClassSteps
pub mod ItemLemmas
pub mod LeadLemmas
pub mod ClassLemmas
pub mod MergedLemmas
pub mod ClassMembers
mod Examples
