pub mod WalkLemmas
pub mod StackLemmas
pub mod CountLemmas
pub mod CutLemmas
pub mod TryLemmas
pub mod ThreadLemmas
