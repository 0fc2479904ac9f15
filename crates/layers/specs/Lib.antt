pub mod Delays
pub mod Gates
pub mod Piles
pub mod Gated
pub mod Delayed
