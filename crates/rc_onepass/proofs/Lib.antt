pub mod LinkLemmas
pub mod ClosureLemmas
pub mod WayLemmas
pub mod StepLemmas
pub mod EnterLemmas
pub mod RunLemmas
