pub mod Spots
pub mod Answering
pub mod Asked
pub mod Parting
pub mod Setting
