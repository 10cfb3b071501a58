pub mod Onward
pub mod Without
mod Contents
mod Nexts
mod Streaming
mod Kept
mod Told
mod Further
mod Grouped
mod Steps
mod Along
mod Listed
