pub mod Walks
pub mod Images
pub mod Hashing
pub mod Parts
pub mod ReadsCounted
pub mod Carrying
