pub mod Linking
pub mod Departing
pub mod Leaving
pub mod Choosing
pub mod Detours
