pub mod Levels
pub mod Digits
pub mod DebugLines
pub mod Lines
pub mod Releases
pub mod Verdicts
