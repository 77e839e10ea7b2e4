pub mod Accesses
pub mod Fetches
pub mod Status
pub mod Repeats
