pub mod FileMaps
pub mod Finds
pub mod Numbers
pub mod Readings
pub mod Writing
