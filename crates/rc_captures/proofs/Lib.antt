pub mod Slots
pub mod Finds
pub mod SlotsLaws
pub mod NamesLaws
pub mod CapturesLaws
mod Examples
