pub mod Requests
pub mod Sessions
pub mod Waits
pub mod Laws
