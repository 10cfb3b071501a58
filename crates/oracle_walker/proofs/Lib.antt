pub mod TextLemmas
pub mod StepLemmas
pub mod SlotLemmas
pub mod SearchLemmas
pub mod MarkLemmas
