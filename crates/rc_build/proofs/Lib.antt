pub mod CheckLemmas
mod Examples
pub mod Fitted
mod LimitLemmas
pub mod Matched
pub mod NamesLemmas
pub mod RefusalLemmas
pub mod Runnable
pub mod Sizes
pub mod TextLemmas
mod WeighingLemmas
