pub mod Reasons
pub mod Calls
pub mod Sounds
pub mod Runs
pub mod Turning
