pub mod Costs
pub mod Laid
pub mod Marks
pub mod Moved
pub mod Order
pub mod Slots
