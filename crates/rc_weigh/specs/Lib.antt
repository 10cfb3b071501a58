pub mod Laws
pub mod Weight
