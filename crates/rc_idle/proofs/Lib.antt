pub mod EnteredLemmas
pub mod IdleLemmas
