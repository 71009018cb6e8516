pub mod Hearing
pub mod Driving
pub mod Sessions
pub mod Devices
pub mod Links
pub mod Consoles
