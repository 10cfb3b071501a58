mod GlobLemmas
pub mod WalkLemmas
