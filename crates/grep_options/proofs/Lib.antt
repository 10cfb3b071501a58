mod NearestLemmas
pub mod WordLemmas
