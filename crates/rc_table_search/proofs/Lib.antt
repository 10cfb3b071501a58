pub mod RunLemmas
pub mod WayLemmas
pub mod SpanLemmas
mod SymbolLemmas
mod ScalarLemmas
mod InsideLemmas
mod BesideLemmas
mod SearchLemmas
mod OverLemmas
mod MemoLemmas
