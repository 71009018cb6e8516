pub mod Cells
pub mod Changes
pub mod Found
pub mod Places
pub mod Reading
pub mod Saved
