pub mod SpellLemmas
pub mod AnswerLemmas
pub mod LookLemmas
pub mod EndingLemmas
