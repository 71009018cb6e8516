pub mod Bank
pub mod Cells
pub mod Fault
pub mod Head
pub mod Newest
pub mod Opening
pub mod Side
pub mod Step
