pub mod Advancing
pub mod Offering
pub mod Detours
pub mod Passing
