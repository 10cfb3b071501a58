mod Gaps
mod Ordered
mod Typed
