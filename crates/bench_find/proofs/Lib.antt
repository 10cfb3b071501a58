mod Replaced
mod Whole
