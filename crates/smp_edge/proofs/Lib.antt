pub mod Fronts
pub mod Writes
pub mod Takings
pub mod Listed
pub mod Spelled
