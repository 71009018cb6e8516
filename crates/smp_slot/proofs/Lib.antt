pub mod Counting
pub mod Ending
pub mod LastPage
pub mod Laying
pub mod Moving
pub mod Paying
pub mod Turning
pub mod Wiping
