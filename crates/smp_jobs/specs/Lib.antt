pub mod Jobs
pub mod Results
pub mod Clients
pub mod Tasks
pub mod States
pub mod Laws
