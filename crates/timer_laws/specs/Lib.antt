pub mod Steps
pub mod Periods
pub mod Edges
pub mod Flags
