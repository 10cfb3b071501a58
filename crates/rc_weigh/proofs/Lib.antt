mod AsciiLemmas
mod Examples
mod CodeLemmas
mod LaidLemmas
pub mod LighterLemmas
mod ProgramLemmas
