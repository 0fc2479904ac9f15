pub mod Stands
pub mod Progress
pub mod Reasons
pub mod Checks
pub mod Same
pub mod Files
