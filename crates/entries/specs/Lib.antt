pub mod Items
pub mod Padding
pub mod Blanks
pub mod Listing
