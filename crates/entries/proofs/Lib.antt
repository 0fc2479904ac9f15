pub mod Listed
pub mod Padded
