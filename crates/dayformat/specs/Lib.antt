pub mod Layout
pub mod Code
pub mod Faults
pub mod Whole
