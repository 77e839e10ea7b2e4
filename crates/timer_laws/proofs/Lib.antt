pub mod Kept
pub mod Cycles
pub mod Repeated
pub mod Divided
pub mod Flagged
