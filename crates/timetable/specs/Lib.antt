pub mod DayTables
pub mod HeadwayBooks
pub mod Departures
pub mod Lawfully
pub mod Edges
