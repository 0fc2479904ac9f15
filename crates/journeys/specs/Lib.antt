pub mod Walking
pub mod Questions
pub mod Journeys
pub mod Rank
