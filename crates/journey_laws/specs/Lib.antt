pub mod Ways
pub mod Branching
pub mod Theorems
pub mod Arrivals
pub mod Known
