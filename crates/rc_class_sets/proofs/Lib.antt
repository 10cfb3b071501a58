pub mod SetLemmas
pub mod FoldLemmas
pub mod OthersLemmas
pub mod ScalarLemmas
pub mod RangeLemmas
