pub mod SizeLemmas
pub mod EmitLemmas
pub mod CompileLemmas
