pub mod Fits
pub mod Laws
pub mod Names
pub mod Oversized
pub mod Refusals
pub mod TextRefusals
