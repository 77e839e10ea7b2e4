pub mod Shapes
pub mod Fetched
pub mod StatusKept
pub mod RepeatCycles
