pub mod Walks
pub mod Ways
pub mod Views
pub mod Refusals
pub mod Searches
pub mod Memos
pub mod MemoLaws
pub mod Decodes
