pub mod Cells
pub mod Record
pub mod State
