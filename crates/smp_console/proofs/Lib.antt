pub mod Collecting
mod LineLaws
pub mod Cuts
pub mod Reading
pub mod Putting
pub mod Again
pub mod Runs
