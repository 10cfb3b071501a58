pub mod Lines
pub mod SearchSettings
pub mod Settings
pub mod StateSettings
pub mod Thompson
pub mod Which
