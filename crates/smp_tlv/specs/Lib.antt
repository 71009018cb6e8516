pub mod Carried
pub mod Covered
pub mod Faults
pub mod Lent
pub mod Reads
pub mod State
pub mod Walking
