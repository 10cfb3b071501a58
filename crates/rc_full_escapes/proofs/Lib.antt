pub mod OctalLemmas
pub mod EscapeLemmas
