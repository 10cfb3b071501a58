pub mod LazyLemmas
pub mod Asked
pub mod Had
pub mod Nexts
pub mod Going
