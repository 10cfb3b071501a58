pub mod GapLemmas
pub mod FlagLemmas
pub mod CountLemmas
