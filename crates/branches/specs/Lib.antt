pub mod Bests
pub mod Following
