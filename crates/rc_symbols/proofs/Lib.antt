pub mod ShapeLemmas
pub mod SymbolLemmas
pub mod ReaderLemmas
mod Examples
